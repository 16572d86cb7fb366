-- `better_of` meets its contract: at each turn the fit is the better of the first and the k slopes before.
use Rattle.slopes.proofs.Betters.{compared_won, compared_lost, compared_all}
use Rattle.slopes.proofs.counting.better_of.Goals as goal
use Rattle.slopes.proofs.counting.better_of.Goals.{then-widths-k, else-widths-k}

pub loop-k-preserved : goal.loop-k-preserved
loop-k-preserved c =
    let loop = c.loop-k in
    let inside = c.loop-k-test.true in
    let right = c.from.ensures in
    elim c.if-widths-k.branch [
      | then-widths-k v ↦
          rw (v.best-is, right, v.from-then-widths-k.ensures, v.from-then-widths-k-2.ensures)
          (compared_won _ _ _ _ _ _ _ _ _ loop.invariant inside (rw right at v.if-widths-k.true))
      | else-widths-k v ↦ rw v.best-is (compared_lost _ _ _ _ _ _ _ _ _ loop.invariant inside (rw right at v.if-widths-k.false))
    ]

pub returns : goal.returns
returns c = compared_all _ _ _ _ _ _ _ _ _ c.loop-k.invariant c.loop-k-test.false
