-- `side_of` meets its contract: by the starts.
use borrow.Author.Tests.{lt-ltb, le-ltb}
use Rattle.insertion.specs.Turns.{side}
use Rattle.insertion.proofs.side_of.Goals as goal

pub returns-then-r-u : goal.returns-then-r-u
unfolding side
returns-then-r-u c = λ K L. rw (lt-ltb _ _ c.if-r-u.true, side)

pub returns-else-r-u : goal.returns-else-r-u
unfolding side
returns-else-r-u c = λ K L. rw (le-ltb _ _ c.if-r-u.false, side)
