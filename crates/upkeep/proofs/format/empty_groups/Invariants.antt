-- After k turns the first k groups are empty, and all else is as it was.
use Rattle.std.proofs.Common.{[]}
use Rattle.front.specs.Read.{numbers_of}
use Rattle.front.proofs.Filling.{Filled}
use Rattle.state.specs.Reading.{read_state}
use Rattle.state.specs.Shaped.{Shaped}
use Rattle.upkeep.proofs.Filling.{groups}
use Rattle.upkeep.proofs.format.empty_groups.Given as goal

abbrev pub invariant-loop-k : goal.invariant-loop-k
invariant-loop-k l = record {
  shape : Shaped (numbers_of l.d) (read_state l.state);
  emptied : Filled [] groups (read_state l.initial.state) l.k (read_state l.state);
}
