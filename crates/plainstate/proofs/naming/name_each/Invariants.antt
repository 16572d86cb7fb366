-- The pages of the entries before the j-th are marked.
use Rattle.std.proofs.Common.{◌+◌}
use Rattle.model.specs.Device.{pages}
use Rattle.front.specs.Read.{numbers_of}
use Rattle.plainstate.specs.Reading.{read_table}
use Rattle.plainstate.specs.Bits.{NamedTo}
use Rattle.plainstate.proofs.naming.name_each.Given as goal

abbrev pub invariant-loop-j : goal.invariant-loop-j
invariant-loop-j l = NamedTo (pages (numbers_of l.d)) (l.x + l.j) (read_table l.state).entries l.bits
