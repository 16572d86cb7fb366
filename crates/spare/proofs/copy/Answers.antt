-- Each turn sets one place, and a store of many is the first set and a store of the rest.
use Rattle.std.proofs.Common.{arith, sym, ◌∙◌}
use lib.ListN.{length-set}
use Rattle.spare.proofs.Programming.{copy_start, copy-turn, copy-end}
use Rattle.spare.proofs.copy.Goals as goal

pub loop-j-init : goal.loop-j-init
loop-j-init c = (omega arith, copy_start _ c.args.from.now _ c.args.i c.args.m)

pub loop-j-preserved : goal.loop-j-preserved
loop-j-preserved c = (simp length-set (omega arith), c.loop-j.invariant.1 ∙ copy-turn _ _ _ _ _ _ c.requires.1 c.loop-j-test.true)

pub returns : goal.returns
returns c = sym (c.loop-j.invariant.1 ∙ copy-end _ _ _ _ _ _ c.loop-j-test.false)
