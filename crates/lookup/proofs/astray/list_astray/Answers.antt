use Rattle.std.proofs.Common.{◌≡◌, ◌<◌, get_or, take, arith}
use Rattle.std.proofs.lemmas.List.{get_or-take, length-take-le}
use Rattle.state.proofs.Marking.{counted, uncounted}
use Rattle.lookup.proofs.Picking.{astray_start, astray_turn}
use Rattle.lookup.proofs.astray.list_astray.Goals as goal

pub loop-o-init : goal.loop-o-init
loop-o-init c = astray_start _ _ _ _ _ _ _ _ _ c.requires.4

-- there is room for the next
pub bounds-list-n : goal.bounds-list-n
bounds-list-n c =
    let all = length-take-le c.args.end c.args.held.now (omega (arith, c.requires.2, c.requires.3)) in
    omega (arith, all, c.loop-o.invariant.long, c.loop-o.invariant.few, c.loop-o-test.true, c.requires.3)

pub overflow_add-n : goal.overflow_add-n
overflow_add-n c = omega (arith, c.loop-o.invariant.few, counted _ _ c.from-n.ensures)

pub loop-o-preserved : goal.loop-o-preserved
loop-o-preserved c =
    let inv = c.loop-o.invariant in
    let all = length-take-le c.args.end c.args.held.now (omega (arith, c.requires.2, c.requires.3)) in
    let before : c.loop-o.o-index < c.args.end = omega (arith, all, c.loop-o-test.true) in
    let is : get_or (take c.args.end c.args.held.now) c.loop-o.o-index 0 ≡ get_or c.args.held.now c.loop-o.o-index 0 = get_or-take _ _ _ 0 before in
    rw is (astray_turn _ _ _ _ _ _ _ _ _ _ _ _ _ _ inv before (omega (arith, inv.long, inv.few, before, c.requires.3)) (c.requires.5 _ before)
    (rw (c.from.ensures, c.from-in-loop-o.ensures, is) at c.strays.ensures) (rw (c.from.ensures, c.from-in-loop-o.ensures, is) at c.strays-in-loop-o.ensures) (counted _ _ c.from-n.ensures) (uncounted _ _ c.from-n.ensures))

pub returns : goal.returns
returns c =
    let inv = c.loop-o.invariant in
    let all = length-take-le c.args.end c.args.held.now (omega (arith, c.requires.2, c.requires.3)) in
    let ended : c.args.end ≡ c.loop-o.o-index = omega (arith, all, inv.past, c.loop-o-test.false) in
    (λ p q m told told' below. rw ended (inv.picked p q m told told' below), omega (arith, inv.few, inv.past), inv.low)
