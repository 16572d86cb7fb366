-- Each refusal, in order, by the law of its return; then the group is compacted. A refusal leaves all bytes, the compaction those
-- outside the group's part.
use Rattle.std.proofs.Common.{sym, ◌∙◌, arith}
use Rattle.std.proofs.lemmas.Result.{err_from_is_err_and}
use Rattle.answers.specs.Answers.{refusal_of, answer_by}
use Rattle.answers.proofs.Verdicts.{refused_first, passed_all}
use Rattle.state.specs.Reading.{read_state}
use Rattle.state.proofs.Refusing.{opened-shape}
use Rattle.upkeep.proofs.Compacting.{compact-closed, compact_range, compact_unsound, compact_done_lem}
use Rattle.upkeep.proofs.compact.compact.Goals as goal

pub returns-in_err-d-clause-ran : goal.returns-in_err-d-clause-ran
unfolding answer_by
returns-in_err-d-clause-ran c =
    let p = err_from_is_err_and c.from_residual.result c.from_residual.ensures.1 in
    rw (p.1, p.2) (λ spare. compact-closed _ _ spare _ (refused_first _ _ _ c.open_state.ensures _ c.in_err-d.was))

pub returns-then-group_count-group-clause-ran : goal.returns-then-group_count-group-clause-ran
unfolding answer_by refusal_of
returns-then-group_count-group-clause-ran c =
    λ spare. compact_range _ _ spare _ (passed_all _ _ _ c.open_state.ensures _ c.in_ok-d.was) (omega arith)

pub group_sound-requires : goal.group_sound-requires
group_sound-requires c =
    let p = passed_all _ _ _ c.open_state.ensures _ c.in_ok-d.was in
    (opened-shape (read_state c.args.state.now) _ p.0 p.1, omega arith)

pub returns-then-not-group_sound-clause-ran : goal.returns-then-not-group_sound-clause-ran
unfolding answer_by refusal_of
returns-then-not-group_sound-clause-ran c =
    λ spare. compact_unsound _ _ spare _ (passed_all _ _ _ c.open_state.ensures _ c.in_ok-d.was) (omega arith)
    (sym c.group_sound.ensures ∙ c.if-not-group_sound.true)

pub compact_group-requires : goal.compact_group-requires
compact_group-requires c =
    let p = passed_all _ _ _ c.open_state.ensures _ c.in_ok-d.was in
    (opened-shape (read_state c.args.state.now) _ p.0 p.1, omega arith, sym c.group_sound.ensures ∙ c.if-not-group_sound.false)

pub returns-clause-ran : goal.returns-clause-ran
unfolding answer_by
returns-clause-ran c =
    let read = c.compact_group.ensures.read in
    λ spare. compact_done_lem _ _ spare _ (passed_all _ _ _ c.open_state.ensures _ c.in_ok-d.was) (omega arith)
    (sym c.group_sound.ensures ∙ c.if-not-group_sound.false) _ _ read.0 read.1
