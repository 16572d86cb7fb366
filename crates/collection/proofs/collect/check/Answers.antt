-- The state is opened or not; then each refusal, in order, by what its test was of.
use Rattle.std.proofs.Common.{sym, ◌∙◌}
use Rattle.std.proofs.lemmas.Result.{err_from_is_err_and}
use Rattle.calls.specs.History.{lend}
use Rattle.calls.proofs.Refusing.{front-refuses}
use Rattle.answers.specs.Answers.{refusal_of}
use Rattle.answers.specs.Opening.{verdict_of}
use Rattle.answers.proofs.Verdicts.{says-refused, says-passed, refused_first, passed_all}
use Rattle.state.specs.Reading.{read_state}
use Rattle.state.proofs.Refusing.{opened_with_lem}
use Rattle.collection.proofs.Ending.{unplanned, unlisted, unsound, admits}
use Rattle.collection.proofs.collect.check.Goals as goal

pub returns-in_err-d : goal.returns-in_err-d
unfolding verdict_of lend
returns-in_err-d c =
    let p = err_from_is_err_and c.from_residual.result c.from_residual.ensures.1 in
    rw (p.1, p.2) (says-refused _ _ (front-refuses _ _ (refused_first _ _ _ c.open_with_spare.ensures _ c.in_err-d.was)))

pub returns-then-plan-d : goal.returns-then-plan-d
unfolding verdict_of refusal_of
returns-then-plan-d c = says-refused _ _ (unplanned _ _ _ _ _ (passed_all _ _ _ c.open_with_spare.ensures _ c.in_ok-d.was) c.if-plan-d.true)

pub returns-then-erased-d : goal.returns-then-erased-d
unfolding verdict_of refusal_of
returns-then-erased-d c =
    says-refused _ _ (unlisted _ _ _ _ _ (passed_all _ _ _ c.open_with_spare.ensures _ c.in_ok-d.was) c.if-plan-d.false c.if-erased-d.true)

pub sound-requires : goal.sound-requires
sound-requires c =
    let p = passed_all _ _ _ c.open_with_spare.ensures _ c.in_ok-d.was in
    (opened_with_lem (read_state c.args.state.now) c.args.spare.now _ p.0 p.1).0

pub returns-then-not-sound : goal.returns-then-not-sound
unfolding verdict_of refusal_of
returns-then-not-sound c =
    says-refused _ _
    (unsound _ _ _ _ _ (passed_all _ _ _ c.open_with_spare.ensures _ c.in_ok-d.was) c.if-plan-d.false c.if-erased-d.false (sym c.sound.ensures ∙ c.if-not-sound.true))

pub returns : goal.returns
unfolding verdict_of
returns c =
    let p = passed_all _ _ _ c.open_with_spare.ensures _ c.in_ok-d.was in
    says-passed _ _ (admits _ _ _ _ _ p c.if-plan-d.false c.if-erased-d.false (sym c.sound.ensures ∙ c.if-not-sound.false)) (sym p.1)
