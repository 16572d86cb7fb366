-- A turn stores the next block's valid pages; behind the last block nothing is left.
use Rattle.std.proofs.Common.{get_or, ltb, arith}
use borrow.Author.Tests.{ltb-true}
use Rattle.calls.specs.Collection.{used_block}
use Rattle.front.specs.Read.{numbers_of}
use Rattle.sorting.proofs.SortStores.{stored_all}
use Rattle.sorting.proofs.SortSpread.{all_get_or, uncounted}
use Rattle.state.specs.Reading.{read_state}
use Rattle.collection.proofs.Gathering.{gathered-end, gathered_next, gathered-count, named-part, named_none, named_count, stored-part}
use Rattle.collection.proofs.moving.gather.Goals as goal

pub gather_block-n-requires : goal.gather_block-n-requires
gather_block-n-requires c =
    let less = c.loop-k-test.true in
    let part = gathered-count (read_state c.args.state.now) c.args.spare.now _ _ less in (
      c.requires.0,
      ltb-true _ _ (all_get_or (λ k. ltb k c.args.d.m) _ _ c.requires.1 less),
      omega (arith, part, c.requires.2),
      omega (arith, part, c.requires.3),
    )

pub loop-k-preserved : goal.loop-k-preserved
loop-k-preserved c =
    let v = c.loop-k.invariant in
    let less = c.loop-k-test.true in
    let pages = (used_block (read_state c.args.state.now) c.args.spare.now (get_or c.args.blocks.now c.loop-k.k-index 0)).pages in
    let made = c.gather_block-n.ensures in record {
      count = omega (arith, gathered-count (read_state c.args.state.now) c.args.spare.now _ _ less, made.count);
      logical = stored-part _ _ _ _ _ _ _ _ v.logical (named-part _ _ _ _ less _) made.logical (named_count (numbers_of c.args.d) c.args.spare.now _ _ pages made.count);
      source = stored-part _ _ _ _ _ _ _ _ v.source (gathered_next _ _ _ _ less) made.source made.count;
    }

pub returns-clause-count : goal.returns-clause-count
returns-clause-count c = uncounted _ _ _ c.loop-k.invariant.count (gathered-end _ _ _ _ c.loop-k-test.false)

pub returns-clause-logical : goal.returns-clause-logical
returns-clause-logical c = stored_all _ _ _ _ c.loop-k.invariant.logical (named_none _ _ _ (gathered-end _ _ _ _ c.loop-k-test.false))

pub returns-clause-source : goal.returns-clause-source
returns-clause-source c = stored_all _ _ _ _ c.loop-k.invariant.source (gathered-end _ _ _ _ c.loop-k-test.false)
