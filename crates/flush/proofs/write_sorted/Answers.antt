-- The pages are sorted into an array, and the block takes its front; the plan has the sources then. Assumes nothing.
use Rattle.std.proofs.Common.{sym, ◌∙◌, arith}
use lib.Seq.{length-take-le}
use Rattle.model.specs.Learning.{sorted}
use Rattle.model.proofs.Limits.{limits}
use Rattle.model.proofs.Sorting.{logicals-length}
use Rattle.front.proofs.Within.{room_small}
use Rattle.sorting.proofs.Batches.{below_more}
use Rattle.sorting.proofs.SortStores.{front}
use Rattle.flush.proofs.Sorted.{sorted-few, sorted-fits, sorted-taken}
use Rattle.flush.proofs.write_sorted.Goals as goal

pub sort_any-n-requires : goal.sort_any-n-requires
sort_any-n-requires c =
    let p = c.requires.0 in
    let n = limits _ p.shape.limits in (
      omega (arith, p.short, n.most_B),
      below_more _ _ _ (omega (arith, n.most_N, room_small _ _ n.most_M n.most_B)) p.inside,
      omega (arith, p.short, n.most_B),
      omega (arith, p.planned, p.short),
    )

pub slice_bounds-pages-end : goal.slice_bounds-pages-end
slice_bounds-pages-end c = omega (arith, sorted-few _ _ _ _ _ c.requires.0)

pub slice_bounds-write_block-end : goal.slice_bounds-write_block-end
slice_bounds-write_block-end c = sym (length-take-le _ c.sort_any-n.new.pages (omega (arith, sorted-few _ _ _ _ _ c.requires.0)))

pub write_block-requires-clause-pages_value : goal.write_block-requires-clause-pages_value
write_block-requires-clause-pages_value c =
    let made = c.sort_any-n.ensures in
    let count = logicals-length (sorted c.args.batch.now) in
    sorted-fits _ _ (front _ _ _ _ made.logical (made.count ∙ sym count) (omega (arith, count, sorted-few _ _ _ _ _ c.requires.0))) _ _ _ _ c.requires.0

pub overflow_cast-result : goal.overflow_cast-result
overflow_cast-result c = omega (arith, sorted-few _ _ _ _ _ c.requires.0)

pub returns : goal.returns
returns c =
    let made = c.sort_any-n.ensures in
    let written = c.write_block.ensures in
    let count = logicals-length (sorted c.args.batch.now) in
    sorted-taken _ _ (front _ _ _ _ made.logical (made.count ∙ sym count) (omega (arith, count, sorted-few _ _ _ _ _ c.requires.0)))
    _ _ _ _ c.requires.0 _ _ _ _ _ written.state_after written.spare_after made.count made.source
