-- What is cleared so far and the pages left make the whole.
use Rattle.std.proofs.Common.{◌≡◌, drop}
use Rattle.calls.specs.Flush.{clear_marks}
use Rattle.front.specs.Read.{numbers_of}
use Rattle.state.specs.Reading.{read_state}
use Rattle.state.specs.Shaped.{Shaped}
use Rattle.state.proofs.marks.unmark_all.Given as goal

abbrev pub invariant-loop-x : goal.invariant-loop-x
invariant-loop-x l = record {
  shape : Shaped (numbers_of l.d) (read_state l.state);
  rest : clear_marks l.batch (read_state l.initial.state) ≡ clear_marks (drop l.x-index l.batch) (read_state l.state);
}
