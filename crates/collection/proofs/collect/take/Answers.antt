-- The front of the array is the tally of this state, by which the blocks are taken.
use Rattle.std.proofs.Common.{List, ℕ, length, sym, ap, ◌∙◌, arith}
use lib.Seq.{length-take-le}
use Rattle.model.specs.State.{free_blocks}
use Rattle.model.proofs.Limits.{limits}
use Rattle.state.proofs.Shaping.{front_in, counts_are}
use Rattle.collection.proofs.Tallying.{tallied}
use Rattle.collection.proofs.collect.take.Goals as goal

pub tally_all-requires : goal.tally_all-requires
tally_all-requires c = (c.requires.0, (limits _ c.requires.0.shape.limits).most_M)

pub free_count-free-requires : goal.free_count-free-requires
free_count-free-requires c = (front_in _ _ c.requires.0.shape).0

pub slice_bounds-tally-end : goal.slice_bounds-tally-end
slice_bounds-tally-end c = omega (arith, (limits _ c.requires.0.shape.limits).most_M)

pub slice_bounds-take_blocks-end : goal.slice_bounds-take_blocks-end
slice_bounds-take_blocks-end c =
    sym (length-take-le _ c.tally_all.new.tally (omega (arith, (limits _ c.requires.0.shape.limits).most_M)))

pub take_blocks-requires : goal.take_blocks-requires
take_blocks-requires c =
    let most = limits _ c.requires.0.shape.limits in
    let long = length-take-le c.args.d.m c.tally_all.new.tally (omega (arith, most.most_M)) in
    (omega (arith, long, most.most_M), omega (arith, long, c.requires.1), most.most_B)

pub returns : goal.returns
returns c =
    let shape = c.requires.0.shape in
    c.take_blocks.ensures _ _ (tallied _ _ _ c.requires.0 _ _ c.tally_all.ensures (omega (arith, (limits _ shape.limits).most_M)))
    (c.free_count-free.ensures ∙ ap (λ (cs : List ℕ). length (free_blocks 0 cs)) (sym (counts_are _ _ shape)))
