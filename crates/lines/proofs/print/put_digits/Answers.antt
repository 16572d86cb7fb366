-- The blanks, the sign if there is one and the digits are laid out one behind the other.
use Rattle.lines.proofs.Texts.{laid_unsigned, laid_signed}
use Rattle.lines.proofs.print.put_digits.Goals as goal

pub returns-then-negative : goal.returns-then-negative
returns-then-negative c = rw c.if-negative.true (laid_signed _ _ c.put_blanks-p.ensures c.put_byte-q.ensures c.put_text.ensures)

pub returns-else-negative : goal.returns-else-negative
returns-else-negative c = rw c.if-negative.false (laid_unsigned _ _ c.put_blanks-p-else-negative.ensures c.put_text-else-negative.ensures)
