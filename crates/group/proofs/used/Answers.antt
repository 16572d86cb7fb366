-- `used` meets its contract: the two bytes at 0.
use Rattle.model.specs.Device.{group_length}
use Rattle.group.specs.Layout.{used_of}
use borrow.Author.Rules.{rules}
use Rattle.group.proofs.used.Goals as goal

pub get_u16-requires : goal.get_u16-requires
get_u16-requires c = unfold group_length in search rules

pub returns : goal.returns
returns c = unfold used_of in search rules
