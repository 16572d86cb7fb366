-- `flag` meets its contract: the two bytes at 2.
use Rattle.model.specs.Device.{group_length}
use Rattle.group.specs.Layout.{flag_of}
use borrow.Author.Rules.{rules}
use Rattle.group.proofs.flag.Goals as goal

pub get_u16-requires : goal.get_u16-requires
get_u16-requires c = unfold group_length in search rules

pub returns : goal.returns
returns c = unfold flag_of in search rules
