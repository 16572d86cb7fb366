use Rattle.std.proofs.Common.{◌≡◌, refl, arith}
use Rattle.std.proofs.lemmas.Bool.{eqb-true, not-false}
use Rattle.state.proofs.Marking.{counted, uncounted}
use Rattle.lookup.proofs.Picking.{picked_start, picked_turn}
use Rattle.lookup.proofs.astray.list_held.Goals as goal

pub loop-o-init : goal.loop-o-init
loop-o-init c = picked_start _ _ _

-- there is room for the next
pub bounds-list-n : goal.bounds-list-n
bounds-list-n c = omega (arith, c.loop-o.invariant.few)

pub overflow_add-n : goal.overflow_add-n
overflow_add-n c = omega (arith, c.loop-o.invariant.few, counted _ _ c.from-n.ensures)

pub loop-o-preserved : goal.loop-o-preserved
loop-o-preserved c =
    picked_turn _ _ _ _ _ _ _ c.loop-o.invariant (omega (arith, c.loop-o.invariant.few)) refl (counted _ _ c.from-n.ensures)
    (λ z. eqb-true _ _ (not-false _ (uncounted _ _ c.from-n.ensures z)))

pub returns : goal.returns
returns c =
    let all : c.args.m ≡ c.loop-o.o = omega (arith, c.loop-o-test.false) in
    rw all c.loop-o.invariant
