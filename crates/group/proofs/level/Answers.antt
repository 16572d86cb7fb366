-- `level` meets its contract: the two bytes behind the slot's record.
use Rattle.model.specs.Device.{group_length}
use Rattle.group.specs.Layout.{slot_level}
use borrow.Author.Rules.{rules}
use Rattle.group.proofs.level.Goals as goal

pub get_u16-requires : goal.get_u16-requires
get_u16-requires c = unfold group_length in search rules

pub returns : goal.returns
returns c = unfold slot_level in search rules
