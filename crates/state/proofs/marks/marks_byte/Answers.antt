-- The byte at its place, which lies in the state.
use Rattle.state.proofs.Shaping.{marks_in, marks-read}
use Rattle.state.proofs.marks.marks_byte.Goals as goal

pub get_u8-requires : goal.get_u8-requires
get_u8-requires c = marks_in _ _ c.requires.0 _ _ c.requires.1 c.marks_place-p.ensures

pub returns : goal.returns
returns c = (marks-read _ _ c.requires.0 _ _ _ c.requires.1 c.marks_place-p.ensures c.get_u8.ensures.0, c.get_u8.ensures.1)
