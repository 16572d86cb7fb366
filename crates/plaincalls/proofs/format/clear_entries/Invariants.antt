-- After x turns the first x entries name no page, and all else is as it was.
use Rattle.plain.specs.Table.{no_page}
use Rattle.front.specs.Read.{numbers_of}
use Rattle.front.proofs.Filling.{Filled}
use Rattle.plainstate.specs.Reading.{read_table}
use Rattle.plainstate.specs.Shaped.{Shaped}
use Rattle.plaincalls.proofs.Filling.{entries}
use Rattle.plaincalls.proofs.format.clear_entries.Given as goal

abbrev pub invariant-loop-x : goal.invariant-loop-x
invariant-loop-x l = record {
  shape : Shaped (numbers_of l.d) (read_table l.state);
  so : Filled no_page entries (read_table l.fn.state) l.x (read_table l.state);
}
