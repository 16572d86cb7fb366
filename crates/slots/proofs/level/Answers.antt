-- `level` meets its contract: the level of a used slot.
use Rattle.group.specs.Layout.{slot_of}
use Rattle.group.proofs.Slots.{get_or-slots_of}
use borrow.Author.Rules.{rules}
use Rattle.slots.proofs.level.Goals as goal

pub returns : goal.returns
returns c = unfold slot_of in search (get_or-slots_of, rules)
