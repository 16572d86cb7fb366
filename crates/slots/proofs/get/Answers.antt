-- `get` meets its contract: a used slot, read in its place.
use Rattle.group.proofs.Slots.{get_or-slots_of}
use borrow.Author.Rules.{rules}
use Rattle.slots.proofs.get.Goals as goal

pub returns : goal.returns
returns c = search (get_or-slots_of, rules)
