-- A byte that is 0 has none.
use Rattle.std.proofs.lemmas.Bool.{eqb-true, not-false}
use Rattle.state.proofs.Marking.{byte_unmarked}
use Rattle.state.proofs.marks.has_marks.Goals as goal

pub returns : goal.returns
returns c e y here = byte_unmarked _ _ _ c.marks_byte.ensures.0 (eqb-true _ _ (not-false _ e)) y here
