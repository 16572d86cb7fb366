-- A turn stores the next block's tally; behind the last block nothing is left.
use Rattle.std.proofs.Common.{refl, arith}
use Rattle.sorting.proofs.SortStores.{stored_on, stored_all}
use Rattle.choice.specs.Tally.{tally_by}
use Rattle.choice.proofs.Tallies.{tallies, tallies_next, tallies-end}
use Rattle.state.specs.Reading.{read_state}
use Rattle.state.specs.Shaped.{count_of}
use Rattle.state.proofs.Shaping.{length-counts}
use Rattle.collection.proofs.validity.tally_all.Goals as goal

pub loop-k-init : goal.loop-k-init
unfolding tally_by tallies
loop-k-init c = refl

pub loop-k-preserved : goal.loop-k-preserved
unfolding count_of
loop-k-preserved c =
    let next = tallies_next _ _ (read_state c.args.state.now).counts _ _ (omega (arith, length-counts _ _ c.requires.0.shape)) c.tally_block.ensures in
    stored_on _ _ _ _ _ _ c.loop-k.invariant next

pub returns : goal.returns
returns c = stored_all _ _ _ _ c.loop-k.invariant (tallies-end _ _ _ _ (omega (arith, length-counts _ _ c.requires.0.shape)))
