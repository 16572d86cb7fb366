-- `set_owner` meets its contract: a store over the two bytes of the entry, which is the owner.
use Rattle.model.specs.Device.{group_length}
use Rattle.slots.proofs.OwnerWrites.{owner-stored}
use borrow.Author.Rules.{rules}
use Rattle.slots.proofs.owners.set_owner.Goals as goal

pub put_u16-requires : goal.put_u16-requires
put_u16-requires c = unfold group_length in search rules

pub returns : goal.returns
returns c = search (owner-stored, rules)
