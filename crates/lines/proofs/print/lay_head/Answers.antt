-- The literal is the line.
use borrow.Author.Rules.{rules}
use Rattle.lines.specs.Printed.{ascii, head_line}
use Rattle.lines.proofs.print.lay_head.Goals as goal

pub returns : goal.returns
unfolding ascii head_line
returns c = search rules
