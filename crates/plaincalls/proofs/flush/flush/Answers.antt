-- Refused as the check says; otherwise the lowest-numbered free block takes the batch.
use Rattle.std.proofs.Common.{sym, ap, ◌∙◌, arith}
use Rattle.std.proofs.lemmas.Result.{err_from_is_err_and}
use Rattle.model.specs.State.{lowest_in}
use Rattle.front.specs.Read.{numbers_of}
use Rattle.answers.specs.Answers.{answer_by}
use Rattle.answers.proofs.Verdicts.{refused_first, passed_all}
use Rattle.plainstate.proofs.Sizes.{small, block-end}
use Rattle.plainstate.proofs.Shaping.{front_in, counts_are}
use Rattle.plaincalls.proofs.Flushing.{flush-refused, passed, lowest-inside, flush-written}
use Rattle.plaincalls.proofs.flush.flush.Goals as goal

pub returns-in_err-d : goal.returns-in_err-d
unfolding answer_by
returns-in_err-d c =
    let p = err_from_is_err_and c.from_residual.result c.from_residual.ensures.1 in
    rw (p.1, p.2) (flush-refused _ _ _ _ (refused_first _ _ _ c.check.ensures _ c.in_err-d.was))

pub lowest_free-k-requires : goal.lowest_free-k-requires
lowest_free-k-requires c =
    let p = passed_all _ _ _ c.check.ensures _ c.in_ok-d.was in
    (front_in _ _ (passed _ _ _ _ p.0 p.1).shape).0

pub write_batch-count-requires : goal.write_batch-count-requires
write_batch-count-requires c =
    let p = passed_all _ _ _ c.check.ensures _ c.in_ok-d.was in
    let all = passed _ _ _ _ p.0 p.1 in
    let lowest = c.lowest_free-k.ensures ∙ ap lowest_in (sym (counts_are _ _ all.shape)) in
    (all, lowest-inside _ _ _ _ p.0 p.1 _ lowest)

pub overflow_mul-result : goal.overflow_mul-result
overflow_mul-result c =
    let p = passed_all _ _ _ c.check.ensures _ c.in_ok-d.was in
    let all = passed _ _ _ _ p.0 p.1 in
    let lowest = c.lowest_free-k.ensures ∙ ap lowest_in (sym (counts_are _ _ all.shape)) in
    omega (arith, block-end (numbers_of c.in_ok-d.d) _ (lowest-inside _ _ _ _ p.0 p.1 _ lowest), (small _ all.shape.limits).all)

pub returns : goal.returns
unfolding answer_by
returns c =
    let p = passed_all _ _ _ c.check.ensures _ c.in_ok-d.was in
    let lowest = c.lowest_free-k.ensures ∙ ap lowest_in (sym (counts_are _ _ (passed _ _ _ _ p.0 p.1).shape)) in
    flush-written _ _ _ _ p.0 p.1 _ _ _ _ lowest c.write_batch-count.ensures
