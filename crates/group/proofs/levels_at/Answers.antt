-- `levels_at` meets its contract: none before the first slot, otherwise one more than the last one's number.
use borrow.Author.Rules.{rules}
use Rattle.group.proofs.Cases.{levels_none, levels_some}
use Rattle.group.proofs.levels_at.Goals as goal

pub returns-then-i-eq0 : goal.returns-then-i-eq0
returns-then-i-eq0 c = search (levels_none, rules)

pub returns-else-i-eq0 : goal.returns-else-i-eq0
returns-else-i-eq0 c = search (levels_some, rules)
