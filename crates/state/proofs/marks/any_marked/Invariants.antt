-- While no byte is counted, none of the pages so far is marked.
use Rattle.std.proofs.Common.{◌≡◌, ◌≤◌, ◌+◌, ◌/◌}
use Rattle.state.specs.Reading.{read_state}
use Rattle.state.proofs.MarkingOut.{NoneIn}
use Rattle.state.proofs.marks.any_marked.Given as goal

abbrev pub invariant-loop-k : goal.invariant-loop-k
invariant-loop-k l = record {
  few : l.marked + l.x / 8 ≤ l.k;
  none : l.marked ≡ 0 → NoneIn (read_state l.state).marks (l.x / 8) l.k;
}
