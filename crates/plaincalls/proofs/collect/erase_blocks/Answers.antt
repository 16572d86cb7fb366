-- One block more is erased.
use Rattle.std.proofs.Common.{ltb, arith}
use borrow.Author.Tests.{ltb-true}
use Rattle.sorting.proofs.SortSpread.{all_get_or}
use Rattle.plaincalls.proofs.Erasing.{erased-shape, erase_next, erase_all}
use Rattle.plaincalls.proofs.collect.erase_blocks.Goals as goal

pub set_count-requires : goal.set_count-requires
set_count-requires c =
    (c.loop-k.invariant.shape, ltb-true _ _ (all_get_or (λ k. ltb k c.args.d.m) _ _ c.requires.1 c.loop-k-test.true), omega arith)

pub loop-k-preserved : goal.loop-k-preserved
loop-k-preserved c = record {
  shape = erased-shape _ _ _ _ c.loop-k.invariant.shape c.set_count.ensures;
  so = erase_next _ _ _ _ c.loop-k.invariant.so c.loop-k-test.true _ c.set_count.ensures;
}

pub returns : goal.returns
returns c = erase_all _ _ _ _ c.loop-k.invariant.so c.loop-k-test.false
