-- Its bit in its byte.
use mathlib.Core.Path.{refl}
use Rattle.model.specs.Marks.{mark_byte, mark_value, has_bit}
use Rattle.model.proofs.Marks.{mark-inside}
use Rattle.front.proofs.Bits.{bit-told}
use Rattle.state.proofs.marks.is_marked.Goals as goal

pub marks_byte-byte-requires : goal.marks_byte-byte-requires
unfolding mark_byte
marks_byte-byte-requires c = (c.requires.0, mark-inside _ _ c.requires.1)

pub returns : goal.returns
unfolding has_bit mark_value
returns c = bit-told _ _ _ c.marks_byte-byte.ensures.0 _ refl
