-- A byte stored at its place: the law of that writer.
use mathlib.Core.Path.{ap, ◌∙◌}
use Rattle.state.specs.Reading.{read_state}
use Rattle.state.proofs.Shaping.{marks_in}
use Rattle.state.proofs.Writers.{marks-stored_at}
use Rattle.state.proofs.marks.set_marks_byte.Goals as goal

pub put_u8-requires : goal.put_u8-requires
put_u8-requires c = (marks_in _ _ c.requires.0 _ _ c.requires.1 c.marks_place-p.ensures, c.requires.2)

pub returns : goal.returns
returns c = ap read_state c.put_u8.ensures ∙ marks-stored_at _ _ c.requires.0 _ _ _ c.requires.1 c.marks_place-p.ensures
