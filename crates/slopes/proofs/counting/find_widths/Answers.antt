-- `find_widths` meets its contract: at each turn k widths stand, and none is above `top`.
use Rattle.std.proofs.Common.{◌≤◌, arith}
use Rattle.slopes.proofs.Stores.{storing_turn}
use Rattle.slopes.proofs.WidthsFound.{topped_turn, width_most}
use Rattle.slopes.proofs.counting.find_widths.Goals as goal

pub loop-k-preserved : goal.loop-k-preserved
loop-k-preserved c =
    let inv = c.loop-k.invariant in
    let w = c.width-n.ensures in
    let most : c.width-n.result ≤ 16 = rw w (width_most _ _ _ c.requires.0) in
    let top = c.max-top.ensures in record {
      widths = storing_turn _ _ _ _ _ _ _ (omega arith) (omega arith) c.loop-k-test.true w inv.widths;
      top = topped_turn _ _ _ _ (omega (arith, top, w)) (omega (arith, top)) (omega (arith, top, most)) inv.top;
    }
