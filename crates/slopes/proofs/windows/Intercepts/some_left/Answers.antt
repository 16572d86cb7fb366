-- `some_left` meets its contract: at each turn it is known of the slopes before k.
use Rattle.std.proofs.Common.{refl}
use Rattle.slopes.proofs.SomeOf.{some_start, some_turn}
use Rattle.slopes.proofs.windows.Intercepts.some_left.Goals as goal

pub loop-k-init : goal.loop-k-init
loop-k-init c = some_start _

pub loop-k-preserved : goal.loop-k-preserved
loop-k-preserved c = some_turn _ _ _ _ c.loop-k.invariant refl
