-- `owner` meets its contract: 0 where the flag is 0, otherwise the offset's entry.
use mathlib.Core.Path.{sym, ◌∙◌}
use native.Mathlib.Omega.{arith}
use borrow.Author.Rules.{rules}
use Rattle.model.specs.Device.{group_length}
use Rattle.group.specs.Layout.{entry_of}
use Rattle.group.proofs.Cases.{owner_none, owner-entry}
use Rattle.group.proofs.owner.Goals as goal

pub get_u16-requires : goal.get_u16-requires
unfolding group_length
get_u16-requires c = search rules

pub returns-then-flag-eq0 : goal.returns-then-flag-eq0
returns-then-flag-eq0 c = (sym (owner_none _ _ (sym c.flag.ensures ∙ c.if-flag-eq0.true)), omega arith)

pub returns-else-flag-eq0 : goal.returns-else-flag-eq0
unfolding entry_of
returns-else-flag-eq0 c = (c.get_u16.ensures.0 ∙ sym (owner-entry _ _ (λ e. c.if-flag-eq0.false (c.flag.ensures ∙ e))), c.get_u16.ensures.1)
