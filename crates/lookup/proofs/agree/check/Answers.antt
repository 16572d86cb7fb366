-- The state is opened or not; then it is sound or not.
use Rattle.std.proofs.Common.{sym, ◌∙◌}
use Rattle.std.proofs.lemmas.Result.{err_from_is_err_and}
use Rattle.calls.proofs.Refusing.{front-refuses}
use Rattle.answers.specs.Answers.{refusal_of}
use Rattle.answers.specs.Opening.{verdict_of}
use Rattle.answers.proofs.Verdicts.{says-refused, says-passed, refused_first, passed_all}
use Rattle.state.specs.Reading.{read_state}
use Rattle.state.proofs.Refusing.{opened_with_lem}
use Rattle.lookup.proofs.Agreeing.{check_unsound, check-clear}
use Rattle.lookup.proofs.agree.check.Goals as goal

pub returns-in_err-d : goal.returns-in_err-d
unfolding verdict_of
returns-in_err-d c =
    let p = err_from_is_err_and c.from_residual.result c.from_residual.ensures.1 in
    rw (p.1, p.2) (says-refused _ _ (front-refuses _ _ (refused_first _ _ _ c.open_with_spare.ensures _ c.in_err-d.was)))

pub sound-requires : goal.sound-requires
sound-requires c =
    let p = passed_all _ (read_state c.args.state.now).device _ c.open_with_spare.ensures _ c.in_ok-d.was in
    (opened_with_lem _ _ _ p.0 p.1).0

pub returns-then-not-sound : goal.returns-then-not-sound
unfolding verdict_of refusal_of
returns-then-not-sound c =
    let p = passed_all _ (read_state c.args.state.now).device _ c.open_with_spare.ensures _ c.in_ok-d.was in
    says-refused _ _ (check_unsound _ _ p.0 (sym c.sound.ensures ∙ c.if-not-sound.true))

pub returns : goal.returns
unfolding verdict_of
returns c =
    let p = passed_all _ (read_state c.args.state.now).device _ c.open_with_spare.ensures _ c.in_ok-d.was in
    says-passed _ _ (check-clear _ _ p.0 (sym c.sound.ensures ∙ c.if-not-sound.false)) (sym p.1)
