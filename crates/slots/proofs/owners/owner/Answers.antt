-- `owner` meets its contract: where the flag is set the entry is the owner.
use mathlib.Core.Path.{sym, ◌∙◌}
use native.Mathlib.Omega.{arith}
use Rattle.model.specs.Device.{group_length}
use Rattle.group.specs.Layout.{entry_of}
use Rattle.group.proofs.Cases.{owner-entry}
use borrow.Author.Rules.{rules}
use Rattle.slots.proofs.owners.owner.Goals as goal

pub get_u16-requires : goal.get_u16-requires
get_u16-requires c = unfold group_length in search rules

pub returns : goal.returns
unfolding entry_of
returns c = (c.get_u16.ensures.0 ∙ sym (owner-entry _ _ (λ z. omega (arith, c.requires.2))), c.get_u16.ensures.1)
