-- `insert` meets its contract: the slots from i on move up, the slot is stored, and one more is counted.
use Rattle.model.specs.Device.{group_length}
use native.Mathlib.Omega.{arith}
use Rattle.slots.proofs.SlotWrites.{insert-shows}
use borrow.Author.Rules.{rules}
use Rattle.slots.proofs.insert.Goals as goal

pub open_slot-requires : goal.open_slot-requires
open_slot-requires c = unfold group_length in search rules

pub put_u16-requires : goal.put_u16-requires
put_u16-requires c = unfold group_length in search rules

pub returns : goal.returns
returns c = let n = c.used-n.ensures in
    insert-shows _ _ _ _ _ _ _ c.requires.0 n.0 (omega arith) (omega arith) c.requires.3 (record { sfits = c.well_formed.1.1.0.1.1.1.0.1.1.1.1.1.0.1 })
    c.open_slot.ensures c.write.ensures c.put_u16.ensures
