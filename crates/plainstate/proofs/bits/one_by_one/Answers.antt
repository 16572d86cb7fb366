-- With a page's bit they are counted up to the next page.
use Rattle.std.proofs.Common.{arith}
use Rattle.plainstate.proofs.Ones.{page_more, counted_all, counted_most}
use Rattle.plainstate.proofs.bits.one_by_one.Goals as goal

pub overflow_add-n : goal.overflow_add-n
overflow_add-n c = omega (arith, counted_most _ _ _ _ _ (page_more _ _ _ _ _ _ c.loop-p-test.true c.get_u8-byte.ensures.0 c.loop-p.invariant))

pub loop-p-preserved : goal.loop-p-preserved
loop-p-preserved c = page_more _ _ _ _ _ _ c.loop-p-test.true c.get_u8-byte.ensures.0 c.loop-p.invariant

pub returns : goal.returns
returns c = counted_all _ _ _ _ _ (omega arith) c.loop-p.invariant
