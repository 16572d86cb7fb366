-- After k turns the first k counts are 0, and all else is as it was.
use Rattle.front.specs.Read.{numbers_of}
use Rattle.front.proofs.Filling.{Filled}
use Rattle.plainstate.specs.Reading.{read_table}
use Rattle.plainstate.specs.Shaped.{Shaped}
use Rattle.plaincalls.proofs.Filling.{counts}
use Rattle.plaincalls.proofs.format.free_blocks.Given as goal

abbrev pub invariant-loop-k : goal.invariant-loop-k
invariant-loop-k l = record {
  shape : Shaped (numbers_of l.d) (read_table l.state);
  so : Filled 0 counts (read_table l.fn.state) l.k (read_table l.state);
}
