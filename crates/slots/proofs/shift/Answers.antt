-- `shift` meets its contract: the slots between move down, and the slot is stored behind them.
use Rattle.model.specs.Device.{group_length}
use Rattle.slots.proofs.Shifts.{shift-shows}
use borrow.Author.Rules.{rules}
use Rattle.slots.proofs.shift.Goals as goal

pub close_slot-requires : goal.close_slot-requires
close_slot-requires c = unfold group_length in search rules

pub returns : goal.returns
returns c = search (shift-shows, rules)
