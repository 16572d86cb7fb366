-- One block more is given up.
use Rattle.std.proofs.Common.{length, ltb, arith}
use borrow.Author.Tests.{ltb-true}
use Rattle.sorting.proofs.SortSpread.{all_get_or}
use Rattle.plaincalls.proofs.Kept.{clear_next, clear_all}
use Rattle.plaincalls.proofs.moving.give_up.Goals as goal

-- the block has a place
pub bounds-kept-k : goal.bounds-kept-k
bounds-kept-k c =
    omega (arith, ltb-true _ _ (all_get_or (λ k. ltb k (length c.args.kept.now)) _ _ c.requires.1 c.loop-k-test.true))

pub loop-k-preserved : goal.loop-k-preserved
loop-k-preserved c = clear_next _ _ _ _ c.loop-k.invariant c.loop-k-test.true

pub returns : goal.returns
returns c = clear_all _ _ _ _ c.loop-k.invariant c.loop-k-test.false
