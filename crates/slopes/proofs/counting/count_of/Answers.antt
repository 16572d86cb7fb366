-- `count_of` meets its contract: at each turn k slopes have their new counts.
use Rattle.std.proofs.Common.{◌+◌, arith, refl}
use Rattle.slopes.proofs.Stores.{storing_turn}
use Rattle.slopes.proofs.RowBytes.{hits_are}
use Rattle.slopes.proofs.counting.count_of.Goals as goal

pub overflow_add-tally-in-loop-k-4 : goal.overflow_add-tally-in-loop-k-4
overflow_add-tally-in-loop-k-4 c =
    let k = c.loop-k.k in
    let counted = hits_are c.args.rows.now c.args.c k _ _ _ _ _ _ _ _ c.from.ensures c.from-in-loop-k.ensures c.from-in-loop-k-2.ensures c.from-in-loop-k-3.ensures
    c.from-in-loop-k-4.ensures c.from-in-loop-k-5.ensures c.from-in-loop-k-6.ensures c.from-in-loop-k-7.ensures in
    omega (arith, counted, c.loop-k.invariant.behind (c.args.to + k) (omega arith), c.requires.2 k c.loop-k-test.true)

pub loop-k-preserved : goal.loop-k-preserved
loop-k-preserved c =
    let k = c.loop-k.k in
    let counted = hits_are c.args.rows.now c.args.c k _ _ _ _ _ _ _ _ c.from.ensures c.from-in-loop-k.ensures c.from-in-loop-k-2.ensures c.from-in-loop-k-3.ensures
    c.from-in-loop-k-4.ensures c.from-in-loop-k-5.ensures c.from-in-loop-k-6.ensures c.from-in-loop-k-7.ensures in
    storing_turn _ _ _ _ _ _ _ (omega arith) refl c.loop-k-test.true
    (omega (arith, counted, c.loop-k.invariant.behind (c.args.to + k) (omega arith))) c.loop-k.invariant
