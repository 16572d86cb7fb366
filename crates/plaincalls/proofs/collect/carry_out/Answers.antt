-- The pages are gathered and written, then the blocks are erased.
use Rattle.std.proofs.Common.{sym, ap, ◌∙◌, ℕ, List, length, ltb, arith}
use lib.Seq.{length-take-le}
use Rattle.model.specs.Lists.{all}
use Rattle.model.proofs.Limits.{limits}
use Rattle.model.proofs.Sorting.{logicals-length}
use Rattle.sorting.proofs.SortStores.{front}
use Rattle.plain.specs.Calls.{moves}
use Rattle.answers.specs.Answers.{answer_by}
use Rattle.plainstate.specs.Reading.{read_table}
use Rattle.plaincalls.proofs.Taking.{moves-few, taken_in, taken-few}
use Rattle.plaincalls.proofs.Collecting.{written-shape, collection-answer}
use Rattle.plaincalls.proofs.collect.carry_out.Goals as goal

pub moves-n-requires : goal.moves-n-requires
moves-n-requires c = (c.requires.0, c.requires.2, (limits _ c.requires.0.shape.limits).most_B, omega (arith, c.requires.1))

pub slice_bounds-pages-end : goal.slice_bounds-pages-end
slice_bounds-pages-end c = omega (arith, moves-few _ _ c.requires.0, (limits _ c.requires.0.shape.limits).most_B)

pub slice_bounds-write_moves-end : goal.slice_bounds-write_moves-end
slice_bounds-write_moves-end c =
    sym (length-take-le _ c.moves-n.new.pages (omega (arith, moves-few _ _ c.requires.0, (limits _ c.requires.0.shape.limits).most_B)))

-- the moves are the front of their array
pub write_moves-first-requires : goal.write_moves-first-requires
write_moves-first-requires c =
    let size = logicals-length (moves (read_table c.args.state.now)) in (
      c.requires.0,
      front _ _ _ _ c.moves-n.ensures.logical (c.moves-n.ensures.count ∙ sym size)
          (omega (arith, size, moves-few _ _ c.requires.0, (limits _ c.requires.0.shape.limits).most_B)),
    )

pub erase_blocks-requires : goal.erase_blocks-requires
erase_blocks-requires c = (
  written-shape _ _ _ _ c.requires.0.shape c.write_moves-first.ensures.left,
  ap (all (λ k. ltb k c.args.d.m)) c.requires.2 ∙ taken_in _ _ c.requires.0 _ (omega arith),
)

pub overflow_cast-result : goal.overflow_cast-result
overflow_cast-result c = omega (arith, moves-few _ _ c.requires.0, (limits _ c.requires.0.shape.limits).most_B)

-- no more blocks are taken than there are
pub overflow_cast-result-2 : goal.overflow_cast-result-2
overflow_cast-result-2 c = omega (arith, ap (λ (l : List ℕ). length l) c.requires.2, taken-few _ _ c.requires.0, (limits _ c.requires.0.shape.limits).most_M)

pub returns-clause-answer : goal.returns-clause-answer
unfolding answer_by
returns-clause-answer c =
    collection-answer (read_table c.args.state.now) _ _ _ c.write_moves-first.ensures.first c.moves-n.ensures.count c.requires.2
