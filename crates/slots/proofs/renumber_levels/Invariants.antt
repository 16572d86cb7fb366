-- At each turn the slots from k on are left to number.
use Rattle.std.proofs.Common.{◌≤◌}
use Rattle.group.specs.Layout.{slots_of}
use Rattle.slots.specs.Edits.{renumber_levels}
use Rattle.slots.proofs.SlotPass.{Changing}
use Rattle.slots.proofs.renumber_levels.Given as goal

abbrev pub invariant-loop-k : goal.invariant-loop-k
invariant-loop-k l = record {
  changing : Changing (renumber_levels l.old l.new) (renumber_levels 0 0 (slots_of l.fn.b)) l.fn.b l.b l.n l.k;
  new : l.new ≤ l.k;
}
