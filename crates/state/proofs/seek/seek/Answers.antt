-- A marked page is nowhere, after no level; another is where the records say.
use Rattle.answers.specs.Answers.{answer_by, found_or_not}
use Rattle.state.proofs.Seeking.{marked-answer, unmarked_answer}
use Rattle.state.proofs.seek.seek.Goals as goal

pub returns-then-is_marked : goal.returns-then-is_marked
unfolding answer_by found_or_not
returns-then-is_marked c = marked-answer _ _ _ _ c.is_marked.ensures c.if-is_marked.true

pub returns-else-is_marked : goal.returns-else-is_marked
returns-else-is_marked c = unmarked_answer _ _ _ _ c.is_marked.ensures c.if-is_marked.false _ c.descend.ensures
