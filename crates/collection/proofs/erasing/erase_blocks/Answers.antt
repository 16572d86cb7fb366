-- A turn erases the block at the index: those behind it are left.
use Rattle.std.proofs.Common.{◌∙◌, ltb, refl, arith}
use borrow.Author.Tests.{ltb-true}
use Rattle.sorting.proofs.SortSpread.{all_get_or}
use Rattle.collection.proofs.Clearing.{erased-shape, cleared_next, cleared-end}
use Rattle.collection.proofs.erasing.erase_blocks.Goals as goal

pub loop-k-init : goal.loop-k-init
loop-k-init c = record { shape = c.requires.0; left = λ plan erased. refl }

pub erase_block-requires : goal.erase_block-requires
erase_block-requires c = (
  c.loop-k.invariant.shape,
  c.loop-k.auto.spare ∙ c.requires.1,
  ltb-true _ _ (all_get_or (λ k. ltb k c.args.d.m) _ _ c.requires.2 (omega arith)),
)

pub loop-k-preserved : goal.loop-k-preserved
loop-k-preserved c =
    let v = c.loop-k.invariant in record {
      shape = erased-shape _ _ _ _ _ _ v.shape c.erase_block.ensures;
      left = cleared_next _ _ _ _ _ _ v.left c.loop-k-test.true _ _ c.erase_block.ensures;
    }

pub returns : goal.returns
returns c = cleared-end _ _ _ _ _ _ c.loop-k.invariant.left c.loop-k-test.false
