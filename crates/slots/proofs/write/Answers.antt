-- `write` meets its contract: the record and the level behind it are one store.
use Rattle.model.specs.Device.{group_length}
use Rattle.slots.proofs.Ten.{ten-stored}
use borrow.Author.Rules.{rules}
use Rattle.slots.proofs.write.Goals as goal

pub encode-requires : goal.encode-requires
encode-requires c = unfold group_length in search rules

pub put_u16-requires : goal.put_u16-requires
put_u16-requires c = unfold group_length in search rules

pub returns : goal.returns
returns c = search (ten-stored, rules)
