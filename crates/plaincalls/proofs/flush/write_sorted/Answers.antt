-- The pages are sorted into an array, and the block takes its front; the plan has the sources then.
use Rattle.std.proofs.Common.{◌≡◌, ◌≤◌, ℕ, List, refl, sym, ◌∙◌, length, take, arith}
use lib.Seq.{length-take-le}
use Rattle.model.specs.Lists.{store}
use Rattle.model.specs.Learning.{sorted, logicals}
use Rattle.model.proofs.Limits.{limits}
use Rattle.model.proofs.Sorting.{logicals-length, sorted-length}
use Rattle.sorting.proofs.Batches.{below_more}
use Rattle.sorting.proofs.SortStores.{front}
use Rattle.plainstate.proofs.Sizes.{small}
use Rattle.plaincalls.proofs.Sorted.{sorted-fits, sorted-taken}
use Rattle.plaincalls.proofs.flush.write_sorted.Goals as goal

-- the batch fits the array
pub sort_any-n-requires : goal.sort_any-n-requires
sort_any-n-requires c =
    let p = c.requires.0 in
    let few : length c.args.batch.now ≤ 256 = omega (arith, p.fits.short, (limits _ p.shape.limits).most_B) in
    (few, below_more _ _ _ (omega (arith, (small _ p.shape.limits).logical)) p.fits.logical, few, omega (arith, p.fits.planned, p.fits.short))

pub slice_bounds-pages-end : goal.slice_bounds-pages-end
slice_bounds-pages-end c =
    let p = c.requires.0 in
    omega (arith, p.fits.short, (limits _ p.shape.limits).most_B, sorted-length c.args.batch.now)

pub slice_bounds-write_block-end : goal.slice_bounds-write_block-end
slice_bounds-write_block-end c =
    let p = c.requires.0 in
    sym (length-take-le _ c.sort_any-n.new.pages (omega (arith, p.fits.short, (limits _ p.shape.limits).most_B, sorted-length c.args.batch.now)))

-- the front of the array
named : (batch array pages : List ℕ) (n : ℕ) → length array ≡ 256 → length batch ≤ 256 → n ≡ length (sorted batch) → pages ≡ store array 0 (logicals (sorted batch))
    → take n pages ≡ logicals (sorted batch)
named batch array pages n long few e h =
    let count = logicals-length (sorted batch) in
    front array pages (logicals (sorted batch)) n h (e ∙ sym count) (omega (arith, sorted-length batch))

pub write_block-requires : goal.write_block-requires
write_block-requires c =
    let p = c.requires.0 in
    let few : length c.args.batch.now ≤ 256 = omega (arith, p.fits.short, (limits _ p.shape.limits).most_B) in
    let f = sorted-fits _ _ (named _ _ _ _ refl few c.sort_any-n.ensures.count c.sort_any-n.ensures.logical) _ _ p.fits in
    (p.shape, f.0, f.1, c.requires.1)

pub overflow_cast-result : goal.overflow_cast-result
overflow_cast-result c =
    let p = c.requires.0 in
    omega (arith, p.fits.short, (limits _ p.shape.limits).most_B, sorted-length c.args.batch.now)

pub returns : goal.returns
returns c =
    let p = c.requires.0 in
    let few : length c.args.batch.now ≤ 256 = omega (arith, p.fits.short, (limits _ p.shape.limits).most_B) in
    let made = c.sort_any-n.ensures in
    sorted-taken _ _ (named _ _ _ _ refl few made.count made.logical) _ _ _ _ _ _ c.write_block.ensures made.count made.source
