-- The pass over all slots is the pass over those from slot i on, with the owners left so far.
use Rattle.std.proofs.Common.{◌≡◌, ◌≤◌, ◌-◌}
use Rattle.group.specs.Layout.{slots_from, slots_of}
use Rattle.group.specs.Checking.{InLast, free_from, left_by, slots_pass}
use Rattle.group.proofs.slots_pass.Given as goal

abbrev pub invariant-loop-i : goal.invariant-loop-i
invariant-loop-i l = record {
  few : l.end ≤ 512;
  last : InLast l.levels l.free;
  rest : slots_pass l.m 0 0 l.fn.owners (slots_of l.b) ≡ slots_pass l.m l.levels (free_from l.levels l.free) l.owners (slots_from l.b l.i (l.end - l.i));
  left : left_by l.fn.owners (slots_of l.b) ≡ left_by l.owners (slots_from l.b l.i (l.end - l.i));
}
