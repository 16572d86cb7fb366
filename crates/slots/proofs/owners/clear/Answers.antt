-- `clear` meets its contract: an owner less.
use mathlib.Core.Path.{refl}
use borrow.Author.Rules.{rules}
use Rattle.slots.proofs.OwnerPasses.{pass_start, pass_turn, pass_end}
use Rattle.slots.proofs.owners.clear.Goals as goal

pub loop-o-init : goal.loop-o-init
loop-o-init c = search (pass_start, rules)

pub loop-o-preserved : goal.loop-o-preserved
loop-o-preserved c =
    let so = c.loop-o in
    pass_turn _ _ _ _ _ _ so.invariant _ _ _ c.loop-o-test.true refl refl c.set_owner.ensures

pub returns : goal.returns
returns c = search (pass_end, rules)
