-- `get_i32` meets its contract: the number of the bits that `le32` reads.
use Rattle.std.proofs.Common.{◌∙◌, ap}
use mir.Syntax.{w32}
use mir.Facts.{to_z-of_z}
use Rattle.octets.specs.Little.{le32s, signed32}
use Rattle.octets.proofs.get_i32.Goals as goal

pub returns : goal.returns
unfolding le32s signed32
returns c = to_z-of_z {w = w32} (record { sfits = c.cast_signed.type_inv }) ∙ c.cast_signed.ensures ∙ ap signed32 c.get_u32.ensures
