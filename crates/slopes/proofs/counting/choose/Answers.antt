-- `choose` meets its contract: at each turn the intercepts below c were looked at.
use Rattle.std.proofs.Common.{arith}
use Rattle.slopes.proofs.Choices.{choosing_start, choosing_turn}
use Rattle.slopes.proofs.counting.choose.Goals as goal

pub loop-c-init : goal.loop-c-init
loop-c-init c = choosing_start _ _ _ _ c.requires.2 c.requires.3

pub loop-c-preserved : goal.loop-c-preserved
loop-c-preserved c =
    let e = c.raise.ensures in
    choosing_turn _ _ _ _ _ _ _ _ (omega arith) e.0 e.1 c.loop-c.invariant
