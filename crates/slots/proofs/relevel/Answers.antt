-- `relevel` meets its contract: a store over the two bytes of the level.
use Rattle.model.specs.Device.{group_length}
use Rattle.slots.proofs.SlotWrites.{relevel-shows}
use borrow.Author.Rules.{rules}
use Rattle.slots.proofs.relevel.Goals as goal

pub put_u16-requires : goal.put_u16-requires
put_u16-requires c = unfold group_length in search rules

pub returns : goal.returns
returns c = search (relevel-shows, rules)
