-- While none is counted, what is left to clear is all that was.
use Rattle.std.proofs.Common.{◌≡◌, ◌≤◌, drop}
use Rattle.model.specs.Marks.{unmark_all}
use Rattle.state.specs.Reading.{read_state}
use Rattle.state.proofs.marks.may_be_marked.Given as goal

abbrev pub invariant-loop-x : goal.invariant-loop-x
invariant-loop-x l = record {
  few : l.count ≤ l.x-index;
  rest : l.count ≡ 0 → unmark_all l.batch (read_state l.state).marks ≡ unmark_all (drop l.x-index l.batch) (read_state l.state).marks;
}
