-- The word, the number and the newline are laid out one behind the other.
use Rattle.lines.specs.Printed.{decimal, signed, ascii, refused_line}
use Rattle.lines.proofs.Texts.{laid_as, laid_then, right_none}
use Rattle.lines.proofs.print.lay_refused.Goals as goal

pub returns : goal.returns
unfolding signed ascii refused_line
returns c = laid_then c.put_text-a.ensures (laid_then (laid_as (right_none (decimal c.args.n)) c.put_number-b.ensures.0) c.put_byte.ensures)
