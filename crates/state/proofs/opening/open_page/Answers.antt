-- The state is opened with its spare area or not; then the logical page and its group decide.
use Rattle.std.proofs.Common.{sym, ◌∙◌}
use Rattle.std.proofs.lemmas.Result.{err_from_is_err_and}
use Rattle.model.proofs.Limits.{group-inside}
use Rattle.answers.specs.Answers.{refusal_of}
use Rattle.answers.specs.Opening.{verdict_of}
use Rattle.answers.proofs.Verdicts.{says-refused, says-passed, refused_first, passed_all}
use Rattle.state.specs.Reading.{read_state}
use Rattle.state.proofs.Refusing.{opened_with_lem}
use Rattle.state.proofs.PageChecks.{page-closed, no_page_lem, page_unsound, page-clear}
use Rattle.state.proofs.opening.open_page.Goals as goal

pub returns-in_err-d : goal.returns-in_err-d
unfolding verdict_of
returns-in_err-d c =
    let p = err_from_is_err_and c.from_residual.result c.from_residual.ensures.1 in
    rw (p.1, p.2) (says-refused _ _ (page-closed _ _ _ _ (refused_first _ _ _ c.open_with_spare.ensures _ c.in_err-d.was)))

pub returns-then-d-page : goal.returns-then-d-page
unfolding verdict_of refusal_of
returns-then-d-page c =
    says-refused _ (read_state c.args.state.now).device (no_page_lem _ _ _ _ (passed_all _ (read_state c.args.state.now).device _ c.open_with_spare.ensures _ c.in_ok-d.was) c.if-d-page.true)

pub group_sound-requires : goal.group_sound-requires
group_sound-requires c =
    let p = passed_all _ (read_state c.args.state.now).device _ c.open_with_spare.ensures _ c.in_ok-d.was in
    ((opened_with_lem (read_state c.args.state.now) c.args.spare.now _ p.0 p.1).0, group-inside _ _ c.if-d-page.false)

pub returns-then-not-group_sound : goal.returns-then-not-group_sound
unfolding verdict_of refusal_of
returns-then-not-group_sound c =
    says-refused _ (read_state c.args.state.now).device
    (page_unsound _ _ _ _ (passed_all _ (read_state c.args.state.now).device _ c.open_with_spare.ensures _ c.in_ok-d.was) c.if-d-page.false (sym c.group_sound.ensures ∙ c.if-not-group_sound.true))

pub returns : goal.returns
unfolding verdict_of
returns c =
    let p = passed_all _ (read_state c.args.state.now).device _ c.open_with_spare.ensures _ c.in_ok-d.was in
    says-passed _ (read_state c.args.state.now).device (page-clear _ _ _ _ p c.if-d-page.false (sym c.group_sound.ensures ∙ c.if-not-group_sound.false)) (sym p.1)
