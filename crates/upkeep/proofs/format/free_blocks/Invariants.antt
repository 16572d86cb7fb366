-- After k turns the first k counts are 0, and all else is as it was.
use Rattle.front.specs.Read.{numbers_of}
use Rattle.front.proofs.Filling.{Filled}
use Rattle.state.specs.Reading.{read_state}
use Rattle.state.specs.Shaped.{Shaped}
use Rattle.upkeep.proofs.Filling.{counts}
use Rattle.upkeep.proofs.format.free_blocks.Given as goal

abbrev pub invariant-loop-k : goal.invariant-loop-k
invariant-loop-k l = record {
  shape : Shaped (numbers_of l.d) (read_state l.state);
  freed : Filled 0 counts (read_state l.initial.state) l.k (read_state l.state);
}
