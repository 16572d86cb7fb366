-- `right_row` meets its contract: at each turn k bytes of the row stand.
use Rattle.std.proofs.Common.{arith, refl}
use Rattle.slopes.proofs.RowBytes.{above_is}
use Rattle.slopes.proofs.Stores.{storing_turn}
use Rattle.slopes.proofs.counting.right_row.Goals as goal

pub loop-k-preserved : goal.loop-k-preserved
loop-k-preserved c = storing_turn _ _ _ _ _ _ _ (omega arith) refl c.loop-k-test.true (above_is _ _ _ _ _ refl) c.loop-k.invariant
