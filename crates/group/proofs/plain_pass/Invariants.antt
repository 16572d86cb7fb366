-- The pass over all slots is the pass over those from slot i on.
use Rattle.std.proofs.Common.{◌≡◌, ◌≤◌, ◌-◌}
use Rattle.group.specs.Layout.{slots_from, slots_of}
use Rattle.group.specs.Checking.{InLast, free_from, slots_pass, no_owners}
use Rattle.group.proofs.plain_pass.Given as goal

abbrev pub invariant-loop-i : goal.invariant-loop-i
invariant-loop-i l = record {
  few : l.end ≤ 512;
  last : InLast l.levels l.free;
  rest : slots_pass l.m 0 0 no_owners (slots_of l.b) ≡ slots_pass l.m l.levels (free_from l.levels l.free) no_owners (slots_from l.b l.i (l.end - l.i));
}
