-- `record_count` meets its contract: the group has a record for each used slot.
use borrow.Author.Rules.{rules}
use Rattle.group.proofs.Slots.{count-read}
use Rattle.group.proofs.record_count.Goals as goal

pub returns : goal.returns
returns c = search (count-read, rules)
