-- Each turn sets an offset of the stride; the mask keeps its length.
use Rattle.probe.proofs.Filling.{striding_start, striding_turn, striding_end}
use Rattle.probe.proofs.groups.expect_strided.Goals as goal

pub loop-o-init : goal.loop-o-init
loop-o-init c = striding_start _ _ _ _ c.requires.3

pub loop-o-preserved : goal.loop-o-preserved
loop-o-preserved c = striding_turn _ _ _ _ _ c.loop-o.invariant c.loop-o-test.true c.requires.2 c.requires.0

pub returns : goal.returns
returns c = striding_end _ _ _ _ _ c.loop-o.invariant c.loop-o-test.false
