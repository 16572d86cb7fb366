-- Nothing to move, or the lowest free block takes the moves.
use Rattle.std.proofs.Common.{sym, ap, ◌∙◌, arith}
use borrow.Author.Tests.{eqb-true, eqb-false}
use Rattle.model.specs.State.{lowest_in}
use Rattle.state.proofs.Shaping.{front_in, counts_are, length-counts}
use Rattle.collection.proofs.Judging.{block-fits}
use Rattle.collection.proofs.Moved.{write-ready, none_moved, some_moved, lowest_in_lem}
use Rattle.collection.proofs.collect.write_moves.Goals as goal

pub lowest_free-k-requires : goal.lowest_free-k-requires
lowest_free-k-requires c = (front_in _ _ c.requires.passed.shape).0

pub write_block-requires-clause-shaped : goal.write_block-requires-clause-shaped
write_block-requires-clause-shaped c =
    let v = c.requires.passed in
    let lowest = c.lowest_free-k.ensures ∙ ap lowest_in (sym (counts_are _ _ v.shape)) in
    (v.shape, v.sound, v.fits, lowest_in_lem _ _ _ v (length-counts _ _ v.shape) _ lowest)

pub write_block-requires-clause-pages_value : goal.write_block-requires-clause-pages_value
write_block-requires-clause-pages_value c = write-ready _ _ _ c.requires.passed _ c.requires.pages_value

pub overflow_mul-result : goal.overflow_mul-result
overflow_mul-result c =
    let v = c.requires.passed in
    let lowest = c.lowest_free-k.ensures ∙ ap lowest_in (sym (counts_are _ _ v.shape)) in
    omega (arith, block-fits _ _ _ v _ (lowest_in_lem _ _ _ v (length-counts _ _ v.shape) _ lowest))

pub returns-then-is_empty-clause-first : goal.returns-then-is_empty-clause-first
returns-then-is_empty-clause-first c =
    (none_moved _ _ _ c.requires.passed _ c.requires.pages_value (eqb-true _ 0 (sym c.is_empty.ensures ∙ c.if-is_empty.true))).0

pub returns-then-is_empty-clause-left : goal.returns-then-is_empty-clause-left
returns-then-is_empty-clause-left c =
    (none_moved _ _ _ c.requires.passed _ c.requires.pages_value (eqb-true _ 0 (sym c.is_empty.ensures ∙ c.if-is_empty.true))).1

pub returns-clause-first : goal.returns-clause-first
returns-clause-first c =
    let v = c.requires.passed in
    let made = c.write_block.ensures in
    (some_moved _ _ _ v _ c.requires.pages_value (eqb-false _ 0 (sym c.is_empty.ensures ∙ c.if-is_empty.false)) _
    (c.lowest_free-k.ensures ∙ ap lowest_in (sym (counts_are _ _ v.shape))) _ _ made.state_after made.spare_after).0

pub returns-clause-left : goal.returns-clause-left
returns-clause-left c =
    let v = c.requires.passed in
    let made = c.write_block.ensures in
    (some_moved _ _ _ v _ c.requires.pages_value (eqb-false _ 0 (sym c.is_empty.ensures ∙ c.if-is_empty.false)) _
    (c.lowest_free-k.ensures ∙ ap lowest_in (sym (counts_are _ _ v.shape))) _ _ made.state_after made.spare_after).1
