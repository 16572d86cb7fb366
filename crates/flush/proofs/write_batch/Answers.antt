-- The marks of the batch's logical pages are cleared. A batch that ascends is then what the block takes, and its indexes are the plan;
-- any other is sorted. Assumes nothing.
use Rattle.std.proofs.Common.{sym, ap, ◌∙◌, arith}
use Rattle.model.specs.Lists.{store}
use Rattle.model.proofs.Limits.{limits}
use Rattle.sorting.proofs.Ascending.{ascending-length, ascending-logicals, ascending-sources}
use Rattle.flush.proofs.Sorted.{sorted-taken}
use Rattle.flush.proofs.Unmarked.{unmarked_admits, unmarked_written}
use Rattle.flush.proofs.write_batch.Goals as goal

pub number-requires : goal.number-requires
number-requires c =
    let p = c.requires.0 in
    (omega (arith, p.short, (limits _ p.shape.limits).most_B), omega (arith, p.planned, p.short))

pub write_block-requires-clause-shaped : goal.write_block-requires-clause-shaped
write_block-requires-clause-shaped c =
    let p = unmarked_admits _ _ _ _ c.unmark_all.ensures _ _ c.requires.0 in
    (p.shape, p.sound, p.fits, c.requires.1)

pub write_sorted-requires : goal.write_sorted-requires
write_sorted-requires c = (unmarked_admits _ _ _ _ c.unmark_all.ensures _ _ c.requires.0, c.requires.1)

pub returns-then-ascends : goal.returns-then-ascends
returns-then-ascends c =
    let h = sym c.ascends.ensures ∙ c.if-ascends.true in
    let p = unmarked_admits _ _ _ _ c.unmark_all.ensures _ _ c.requires.0 in
    let made = c.write_block.ensures in
    unmarked_written _ _ _ _ c.unmark_all.ensures _ _ _ _ _ _ _
    (sorted-taken _ _ (ascending-logicals _ h) _ _ _ _ p _ _ _ _ _ made.state_after made.spare_after (ascending-length _ h) (c.number.ensures ∙ ap (store _ 0) (ascending-sources _ h)))
