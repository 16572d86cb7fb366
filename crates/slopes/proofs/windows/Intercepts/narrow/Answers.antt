-- `narrow` meets its contract: at each turn the intercepts of the slopes before k are narrowed.
use Rattle.std.proofs.Common.{arith}
use Rattle.slopes.proofs.Stores.{storing_turn}
use Rattle.slopes.proofs.windows.Intercepts.narrow.Goals as goal

pub loop-k-preserved : goal.loop-k-preserved
loop-k-preserved c =
    let low = c.loop-k.invariant.low in
    let high = c.loop-k.invariant.high in
    let k = c.loop-k.k in record {
      low = storing_turn _ _ _ _ _ _ _ (omega arith) (omega arith) c.loop-k-test.true (rw (low.behind k (omega arith)) at c.max.ensures) low;
      high = storing_turn _ _ _ _ _ _ _ (omega arith) (omega arith) c.loop-k-test.true (rw (high.behind k (omega arith)) at c.min.ensures) high;
    }
