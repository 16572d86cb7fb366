-- The pages of the first 16 * i entries are marked, and those of them counted that name one.
use Rattle.std.proofs.Common.{◌≡◌, ◌*◌}
use Rattle.model.specs.Device.{pages}
use Rattle.front.specs.Read.{numbers_of}
use Rattle.plainstate.specs.Reading.{read_table}
use Rattle.plainstate.specs.Bits.{NamedTo, named_to}
use Rattle.plainstate.proofs.naming.name_all.Given as goal

abbrev pub invariant-loop-i : goal.invariant-loop-i
invariant-loop-i l = record {
  count : l.c ≡ named_to (16 * l.i) (read_table l.state).entries;
  bits : NamedTo (pages (numbers_of l.d)) (16 * l.i) (read_table l.state).entries l.bits;
}
