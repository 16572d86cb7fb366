-- The literal is the line.
use borrow.Author.Rules.{rules}
use Rattle.lines.specs.Printed.{ascii, bad_line}
use Rattle.lines.proofs.print.lay_bad.Goals as goal

pub returns : goal.returns
unfolding ascii bad_line
returns c = search rules
