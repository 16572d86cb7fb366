-- `decode` meets its contract: field by field, the intercept read back from its bits.
use Rattle.std.proofs.Common.{◌∙◌}
use mir.Syntax.{w32}
use mir.Facts.{to_z-of_z}
use Rattle.record.specs.Coding.{record_at}
use Rattle.record.proofs.decode.Goals as goal

pub returns : goal.returns
unfolding record_at
returns c =
    let start = c.get_u8-start.ensures in
    let span = c.get_u8-span.ensures in
    let word = c.get_u16-word.ensures in
    let intercept = to_z-of_z {w = w32} (record { sfits = c.get_i32-intercept.type_inv }) ∙ c.get_i32-intercept.ensures in
    (rw (start.0, span.0, word.0, intercept), (start.1, span.1, word.1))
