-- `remove` meets its contract: the slots behind i move down, and one less is counted.
use Rattle.model.specs.Device.{group_length}
use native.Mathlib.Omega.{arith}
use Rattle.slots.proofs.SlotWrites.{remove-shows}
use borrow.Author.Rules.{rules}
use Rattle.slots.proofs.remove.Goals as goal

pub close_slot-requires : goal.close_slot-requires
close_slot-requires c = unfold group_length in search rules

pub put_u16-requires : goal.put_u16-requires
put_u16-requires c = unfold group_length in search rules

pub returns : goal.returns
returns c = let n = c.used-n.ensures in
    remove-shows _ _ _ _ _ c.requires.0.0 n.0 (omega arith) (omega arith) c.close_slot.ensures c.put_u16.ensures
