-- `open_owners` meets its contract: nothing is owned while the flag is 0, so that all owners are cleared when it is set.
use mathlib.Core.Path.{sym, ◌∙◌}
use native.Mathlib.Omega.{arith}
use borrow.Author.Rules.{rules}
use Rattle.model.specs.Device.{group_length}
use Rattle.slots.proofs.OwnerWrites.{flag-stored, opened}
use Rattle.slots.proofs.owners.open_owners.Goals as goal

pub put_u16-requires : goal.put_u16-requires
unfolding group_length
put_u16-requires c = search rules

pub clear-requires : goal.clear-requires
clear-requires c =
    let set = flag-stored _ _ _ c.requires (omega arith) c.put_u16.ensures in
    (set.0, omega (arith, set.2))

pub returns-then-flag-eq0 : goal.returns-then-flag-eq0
returns-then-flag-eq0 c =
    let set = flag-stored _ _ _ c.requires (omega arith) c.put_u16.ensures in
    opened _ _ _ (sym c.flag.ensures ∙ c.if-flag-eq0.true) set c.clear.ensures
