-- One character is stored.
use borrow.Author.Rules.{rules}
use Rattle.lines.proofs.Texts.{laid_one}
use Rattle.lines.proofs.print.put_byte.Goals as goal

pub returns : goal.returns
returns c = search (laid_one, rules)
