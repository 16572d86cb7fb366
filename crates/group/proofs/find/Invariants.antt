-- What the search from the top finds is what is found from slot i on.
use Rattle.std.proofs.Common.{◌≡◌, ◌≤◌, ◌-◌}
use Rattle.group.specs.Layout.{slots_from, slots_of, owner_of, levels_at}
use Rattle.group.proofs.Finding.{hit_from}
use Rattle.group.proofs.find.Given as goal

abbrev pub invariant-loop-i : goal.invariant-loop-i
invariant-loop-i l = record {
  few : l.n ≤ 512;
  rest : hit_from (owner_of l.b) l.o 0 (slots_of l.b) ≡ hit_from (owner_of l.b) l.o (levels_at l.b l.i) (slots_from l.b l.i (l.n - l.i));
}
