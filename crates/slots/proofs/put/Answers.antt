-- `put` meets its contract: a store over the ten bytes of a used slot, whose intercept fits by its type.
use Rattle.slots.proofs.SlotWrites.{put-shows}
use borrow.Author.Rules.{rules}
use Rattle.slots.proofs.put.Goals as goal

pub returns : goal.returns
returns c = search (put-shows, rules)
