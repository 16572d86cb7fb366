-- `fill_rows` meets its contract: at each turn j rows stand.
use Rattle.std.proofs.Common.{arith, refl}
use Rattle.slopes.proofs.Stores.{blocks-turn}
use Rattle.slopes.proofs.RowBytes.{above_at_lem}
use Rattle.slopes.proofs.counting.fill_rows.Goals as goal

pub loop-j-preserved : goal.loop-j-preserved
loop-j-preserved c =
    blocks-turn _ _ _ _ _ _ _ refl (λ k h. above_at_lem _ _ _ _ _ (omega arith)) c.loop-j.invariant c.right_row.ensures
