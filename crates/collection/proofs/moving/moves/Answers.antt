-- The gathered pages fit and are ready to be sorted; sorted they are the moves.
use Rattle.std.proofs.Common.{ltb, refl, sym, ap, ◌∙◌, arith}
use lib.Seq.{length-take-le}
use Rattle.model.specs.Lists.{all}
use Rattle.choice.proofs.Taken.{blocks_in}
use Rattle.state.proofs.Shaping.{length-counts}
use Rattle.collection.proofs.Moved.{gathered-few, sort-ready, sort-done}
use Rattle.collection.proofs.moving.moves.Goals as goal

pub gather-n-requires : goal.gather-n-requires
gather-n-requires c =
    let most = gathered-few _ _ _ c.requires.0 _ c.requires.1 in (
      c.requires.0,
      ap (all (λ k. ltb k c.args.d.m)) c.requires.1 ∙ blocks_in _ _ _ _ (length-counts _ _ c.requires.0.shape),
      most,
      most,
    )

pub slice_bounds-batch-end : goal.slice_bounds-batch-end
slice_bounds-batch-end c = omega (arith, gathered-few _ _ _ c.requires.0 _ c.requires.1)

pub slice_bounds-sort_writes-end : goal.slice_bounds-sort_writes-end
slice_bounds-sort_writes-end c = sym (length-take-le _ c.gather-n.new.pages (omega (arith, gathered-few _ _ _ c.requires.0 _ c.requires.1)))

pub slice_bounds-from-end : goal.slice_bounds-from-end
slice_bounds-from-end c = omega (arith, gathered-few _ _ _ c.requires.0 _ c.requires.1)

pub slice_bounds-sort_writes-end-2 : goal.slice_bounds-sort_writes-end-2
slice_bounds-sort_writes-end-2 c = sym (length-take-le _ c.gather-n.new.sources (omega (arith, gathered-few _ _ _ c.requires.0 _ c.requires.1)))

pub sort_writes-requires : goal.sort_writes-requires
sort_writes-requires c =
    let pre = c.requires in
    let made = c.gather-n.ensures in
    sort-ready _ _ _ pre.0 _ _ _ _ _ _ pre.1 made.count made.logical made.source refl refl _ _ pre.2 pre.3

pub returns : goal.returns
returns c =
    let pre = c.requires in
    let made = c.gather-n.ensures in
    let e = c.sort_writes.ensures in
    let done = sort-done _ _ _ pre.0 _ _ _ _ _ _ pre.1 made.count made.logical made.source refl refl _ _ _ _ _ e.count e.logical e.source in
    record { count = done.0; logical = done.1.0; source = done.1.1 }
