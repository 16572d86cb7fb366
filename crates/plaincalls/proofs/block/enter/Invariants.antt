-- The first i pages are entered.
use Rattle.front.specs.Read.{numbers_of}
use Rattle.plainstate.specs.Reading.{read_table}
use Rattle.plainstate.specs.Shaped.{Shaped}
use Rattle.plaincalls.proofs.Entering.{Entering}
use Rattle.plaincalls.proofs.block.enter.Given as goal

abbrev pub invariant-loop-i : goal.invariant-loop-i
invariant-loop-i l = record {
  shape : Shaped (numbers_of l.d) (read_table l.state);
  so : Entering l.first l.pages (read_table l.fn.state) l.i (read_table l.state);
}
