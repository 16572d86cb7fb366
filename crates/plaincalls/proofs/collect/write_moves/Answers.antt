-- Nothing to move, or the lowest free block takes the moves.
use Rattle.std.proofs.Common.{sym, ap, ◌∙◌, ℕ, List, length, ltb, arith}
use borrow.Author.Tests.{eqb-true, eqb-false}
use Rattle.model.specs.Lists.{all}
use Rattle.model.specs.State.{lowest_in}
use Rattle.model.proofs.Sorting.{logicals-length}
use Rattle.plain.specs.Calls.{moves}
use Rattle.plainstate.specs.Reading.{read_table}
use Rattle.plainstate.proofs.Shaping.{front_in, counts_are}
use Rattle.plaincalls.proofs.Taking.{moves-few, moves-below, lowest-inside, first_small}
use Rattle.plaincalls.proofs.Collecting.{none_written, some_written}
use Rattle.plaincalls.proofs.collect.write_moves.Goals as goal

pub returns-then-is_empty-clause-first : goal.returns-then-is_empty-clause-first
returns-then-is_empty-clause-first c =
    (none_written _ (read_table c.args.state.now) _ c.requires.1 (eqb-true (length c.args.pages.now) 0 (sym c.is_empty.ensures ∙ c.if-is_empty.true))).0

pub returns-then-is_empty-clause-left : goal.returns-then-is_empty-clause-left
returns-then-is_empty-clause-left c =
    (none_written _ (read_table c.args.state.now) _ c.requires.1 (eqb-true (length c.args.pages.now) 0 (sym c.is_empty.ensures ∙ c.if-is_empty.true))).1

pub lowest_free-k-requires : goal.lowest_free-k-requires
lowest_free-k-requires c = (front_in _ _ c.requires.0.shape).0

pub write_block-requires : goal.write_block-requires
write_block-requires c =
    let pre = c.requires in
    let size = ap (λ (l : List ℕ). length l) pre.1 ∙ logicals-length (moves (read_table c.args.state.now)) in
    let lowest = c.lowest_free-k.ensures ∙ ap lowest_in (sym (counts_are _ _ pre.0.shape)) in
    (pre.0.shape, ap (all (λ x. ltb x c.args.d.n)) pre.1 ∙ moves-below _ _ pre.0, omega (arith, size, moves-few _ _ pre.0), lowest-inside _ _ pre.0 _ lowest)

pub overflow_mul-result : goal.overflow_mul-result
overflow_mul-result c =
    let lowest = c.lowest_free-k.ensures ∙ ap lowest_in (sym (counts_are _ _ c.requires.0.shape)) in
    omega (arith, first_small _ _ c.requires.0 _ (lowest-inside _ _ c.requires.0 _ lowest))

pub returns-clause-first : goal.returns-clause-first
returns-clause-first c =
    let some = eqb-false (length c.args.pages.now) 0 (sym c.is_empty.ensures ∙ c.if-is_empty.false) in
    let lowest = c.lowest_free-k.ensures ∙ ap lowest_in (sym (counts_are _ _ c.requires.0.shape)) in
    (some_written _ _ _ c.requires.1 some _ lowest _ c.requires.0.shape.numbers _ c.write_block.ensures).0

pub returns-clause-left : goal.returns-clause-left
returns-clause-left c =
    let some = eqb-false (length c.args.pages.now) 0 (sym c.is_empty.ensures ∙ c.if-is_empty.false) in
    let lowest = c.lowest_free-k.ensures ∙ ap lowest_in (sym (counts_are _ _ c.requires.0.shape)) in
    (some_written _ _ _ c.requires.1 some _ lowest _ c.requires.0.shape.numbers _ c.write_block.ensures).1
