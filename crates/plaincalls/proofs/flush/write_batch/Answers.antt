-- A batch that ascends is what the block takes, and its indexes are the plan; any other is sorted.
use Rattle.std.proofs.Common.{sym, ap, ◌∙◌, arith}
use Rattle.model.specs.Lists.{store}
use Rattle.model.proofs.Limits.{limits}
use Rattle.sorting.proofs.Ascending.{ascending-length, ascending-logicals, ascending-sources}
use Rattle.plaincalls.proofs.Sorted.{sorted-taken}
use Rattle.plaincalls.proofs.flush.write_batch.Goals as goal

pub number-requires : goal.number-requires
number-requires c =
    let p = c.requires.0 in
    (omega (arith, p.fits.short, (limits _ p.shape.limits).most_B), omega (arith, p.fits.planned, p.fits.short))

pub returns-then-ascends : goal.returns-then-ascends
returns-then-ascends c =
    let h = sym c.ascends.ensures ∙ c.if-ascends.true in
    sorted-taken _ _ (ascending-logicals _ h) _ _ _ _ _ _ c.write_block.ensures (ascending-length _ h) (c.number.ensures ∙ ap (store _ 0) (ascending-sources _ h))
