-- The record and the level behind it are one store.
use Rattle.slots.proofs.Ten.{ten-stored}
use Rattle.lookup.proofs.list.put_slot.Goals as goal

pub returns : goal.returns
returns c = ten-stored _ _ _ _ _ c.encode.ensures c.put_u16.ensures
