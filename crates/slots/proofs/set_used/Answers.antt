-- `set_used` meets its contract: the number of used slots is stored.
use Rattle.model.specs.Device.{group_length}
use Rattle.slots.proofs.SlotWrites.{used-shows}
use borrow.Author.Rules.{rules}
use Rattle.slots.proofs.set_used.Goals as goal

pub put_u16-requires : goal.put_u16-requires
put_u16-requires c = unfold group_length in search rules

pub returns : goal.returns
returns c = search (used-shows, rules)
