-- The pages of the entries up to j are marked, and so many of them counted as name one.
use Rattle.std.proofs.Common.{◌≡◌, ◌+◌, ◌-◌, ◌≤◌}
use Rattle.model.specs.Device.{pages}
use Rattle.front.specs.Read.{numbers_of}
use Rattle.plainstate.specs.Reading.{read_table}
use Rattle.plainstate.specs.Bits.{NamedTo, named_to}
use Rattle.plainstate.proofs.naming.name_some.Given as goal

abbrev pub invariant-loop-j : goal.invariant-loop-j
invariant-loop-j l = record {
  few : l.c ≤ l.j - l.x;
  count : l.c + named_to l.x (read_table l.state).entries ≡ named_to l.j (read_table l.state).entries;
  bits : NamedTo (pages (numbers_of l.d)) l.j (read_table l.state).entries l.bits;
}
