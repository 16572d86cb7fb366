-- A page is written as far as may be, and what is left is the next page on.
use Rattle.std.proofs.Common.{arith}
use Rattle.spare.proofs.Programming.{left-start, left-turn, left_end}
use Rattle.spare.proofs.program_pages.Goals as goal

pub loop-i-init : goal.loop-i-init
loop-i-init c = (omega arith, left-start _ _ _ _ _ _ c.requires.1)

pub loop-i-preserved : goal.loop-i-preserved
loop-i-preserved c =
    (omega (arith, c.put-left.auto.spare), left-turn c.loop-i.invariant.1 _ _ c.loop-i-test.true c.put-left.ensures.count c.put-left.ensures.written)

pub returns : goal.returns
returns c = left_end c.loop-i.invariant.1 c.loop-i-test.false
