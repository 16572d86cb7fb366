use Rattle.std.proofs.Common.{arith}
use Rattle.lookup.proofs.Sameness.{same_start, same_turn, same_end}
use Rattle.lookup.proofs.pages.same_forecasts.Goals as goal

pub loop-o-init : goal.loop-o-init
loop-o-init c = same_start _ _

pub loop-o-preserved : goal.loop-o-preserved
loop-o-preserved c = same_turn _ _ _ _ c.loop-o.invariant

pub returns : goal.returns
returns c = same_end _ _ _ _ _ c.loop-o.invariant (omega arith) (omega (arith, c.loop-o-test.false))
