-- The part behind `at` is the text.
use mathlib.Core.Path.{refl}
use Rattle.lines.proofs.Texts.{laid_part}
use Rattle.lines.proofs.print.put_text.Goals as goal

pub returns : goal.returns
returns c = laid_part _ _ _ _ _ c.copy_from_slice.ensures.after refl c.requires
