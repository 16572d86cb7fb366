-- Each arm by the number of its answer.
use Rattle.answers.specs.Answers.{plainly_found}
use Rattle.export.specs.Packing.{packed, page_alone}
use Rattle.export.proofs.pack.page.Goals as goal

pub returns-in-Some : goal.returns-in-Some
unfolding packed page_alone plainly_found
returns-in-Some c = rw (c.in-Some.is, c.from.ensures)

pub returns-in-None : goal.returns-in-None
unfolding packed page_alone plainly_found
returns-in-None c = rw c.in-None.is
