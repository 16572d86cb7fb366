-- The blocks before the next one are erased.
use Rattle.front.specs.Read.{numbers_of}
use Rattle.plainstate.specs.Reading.{read_table}
use Rattle.plainstate.specs.Shaped.{Shaped}
use Rattle.plaincalls.proofs.Erasing.{Erasing}
use Rattle.plaincalls.proofs.collect.erase_blocks.Given as goal

abbrev pub invariant-loop-k : goal.invariant-loop-k
invariant-loop-k l = record {
  shape : Shaped (numbers_of l.d) (read_table l.state);
  so : Erasing l.blocks (read_table l.fn.state) l.k-index (read_table l.state);
}
