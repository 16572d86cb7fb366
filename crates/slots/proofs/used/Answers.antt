-- `used` meets its contract: the number of used slots is the length of their list.
use Rattle.group.proofs.Slots.{length-slots_of}
use borrow.Author.Rules.{rules}
use Rattle.slots.proofs.used.Goals as goal

pub returns : goal.returns
returns c = search (length-slots_of, rules)
