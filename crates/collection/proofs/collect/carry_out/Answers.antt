-- The pages are gathered and written, then the blocks are erased.
use Rattle.std.proofs.Common.{ℕ, List, length, ltb, sym, ap, ◌∙◌, arith}
use lib.Seq.{length-take-le}
use Rattle.model.specs.Lists.{all}
use Rattle.model.proofs.Limits.{limits}
use Rattle.answers.specs.Answers.{answer_by}
use Rattle.calls.specs.Collection.{valid}
use Rattle.choice.proofs.Taken.{blocks_in, blocks-few}
use Rattle.state.specs.Reading.{read_state}
use Rattle.state.proofs.Shaping.{length-counts}
use Rattle.collection.proofs.Moved.{moves-few, moves_front}
use Rattle.collection.proofs.Clearing.{written-shape, collection-left, collection-answer}
use Rattle.collection.proofs.collect.carry_out.Goals as goal

pub moves-n-requires : goal.moves-n-requires
moves-n-requires c =
    let pre = c.requires in
    (pre.0, pre.2, (limits _ pre.0.shape.limits).most_B, omega (arith, pre.1))

pub slice_bounds-pages-end : goal.slice_bounds-pages-end
slice_bounds-pages-end c = omega (arith, moves-few _ _ _ c.requires.0)

pub slice_bounds-write_moves-end : goal.slice_bounds-write_moves-end
slice_bounds-write_moves-end c = sym (length-take-le _ c.moves-n.new.pages (omega (arith, moves-few _ _ _ c.requires.0)))

pub write_moves-first-requires-clause-pages_value : goal.write_moves-first-requires-clause-pages_value
write_moves-first-requires-clause-pages_value c = moves_front _ _ _ c.requires.0 _ _ _ c.moves-n.ensures.logical c.moves-n.ensures.count (omega arith)

pub erase_blocks-requires : goal.erase_blocks-requires
erase_blocks-requires c =
    let shape = c.requires.0.shape in (
      written-shape _ _ _ _ _ _ shape c.write_moves-first.ensures.left,
      c.write_moves-first.auto.spare ∙ c.requires.0.fits,
      ap (all (λ k. ltb k c.args.d.m)) c.requires.2 ∙ blocks_in _ _ _ _ (length-counts _ _ shape),
    )

pub overflow_cast-result : goal.overflow_cast-result
overflow_cast-result c = omega (arith, moves-few _ _ _ c.requires.0)

pub overflow_cast-result-2 : goal.overflow_cast-result-2
overflow_cast-result-2 c =
    let s = read_state c.args.state.now in
    let shape = c.requires.0.shape in
    omega (arith, ap (λ (l : List ℕ). length l) c.requires.2, blocks-few (valid s c.args.spare.now) s.device s.counts _ (length-counts _ _ shape), (limits _ shape.limits).most_M)

pub returns-clause-answer : goal.returns-clause-answer
unfolding answer_by
returns-clause-answer c =
    let written = c.write_moves-first.ensures in
    λ erased. collection-answer _ _ _ _ _ _ _ _ _ written.left c.moves-n.ensures.source c.requires.2 c.erase_blocks.ensures erased _ _ written.first c.moves-n.ensures.count

pub returns-clause-left : goal.returns-clause-left
returns-clause-left c =
    λ erased. collection-left _ _ _ _ _ _ _ _ _ c.write_moves-first.ensures.left c.moves-n.ensures.source c.requires.2 c.erase_blocks.ensures erased
