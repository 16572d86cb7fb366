-- What the blocks from the index on leave of the state and the spare area now is what all leave of those at the start.
use Rattle.std.proofs.Common.{drop}
use Rattle.front.specs.Read.{numbers_of}
use Rattle.state.specs.Reading.{read_state}
use Rattle.state.specs.Shaped.{Shaped}
use Rattle.collection.proofs.Clearing.{Clearing}
use Rattle.collection.proofs.erasing.erase_blocks.Given as goal

abbrev pub invariant-loop-k : goal.invariant-loop-k
invariant-loop-k l = record {
  shape : Shaped (numbers_of l.d) (read_state l.state);
  left : Clearing l.blocks (read_state l.initial.state) l.initial.spare (drop l.k-index l.blocks) (read_state l.state) l.spare;
}
