-- At each turn the slots from z to before j are ahead.
use Rattle.std.proofs.Common.{◌≡◌, ◌+◌, drop}
use Rattle.group.specs.Layout.{slots_of}
use Rattle.insertion.specs.Turns.{count_ahead}
use Rattle.insertion.proofs.skip.Given as goal

abbrev pub invariant-loop-j : goal.invariant-loop-j
invariant-loop-j l = l.z + count_ahead l.start (drop l.z (slots_of l.b)) ≡ l.j + count_ahead l.start (drop l.j (slots_of l.b))
