-- Those of the entries before the j-th are counted.
use Rattle.std.proofs.Common.{◌≡◌, ◌+◌, ◌≤◌}
use Rattle.plainstate.specs.Reading.{read_table}
use Rattle.plainstate.specs.Bits.{named_to}
use Rattle.plainstate.proofs.naming.count_names.Given as goal

abbrev pub invariant-loop-j : goal.invariant-loop-j
invariant-loop-j l = record {
  few : l.c ≤ l.j;
  count : l.c + named_to l.x (read_table l.state).entries ≡ named_to (l.x + l.j) (read_table l.state).entries;
}
