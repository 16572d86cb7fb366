-- The state is opened or not; then each refusal, in order, by what its test was of.
use Rattle.std.proofs.Common.{sym, ◌∙◌}
use Rattle.std.proofs.lemmas.Result.{err_from_is_err_and}
use Rattle.calls.proofs.Refusing.{none_some, front-refuses}
use Rattle.answers.specs.Answers.{refusal_of}
use Rattle.answers.specs.Opening.{verdict_of}
use Rattle.answers.proofs.Verdicts.{says-refused, says-passed, refused_first, passed_all}
use Rattle.plaincalls.proofs.Collecting.{shape, plan_refused, erased_refused, table_refused, none_refused}
use Rattle.plaincalls.proofs.collect.check.Goals as goal

pub returns-in_err-d-clause-verdict : goal.returns-in_err-d-clause-verdict
unfolding verdict_of
returns-in_err-d-clause-verdict c =
    let p = err_from_is_err_and c.from_residual.result c.from_residual.ensures.1 in
    rw (p.1, p.2) (says-refused _ _ (front-refuses _ _ (refused_first _ _ _ c.open_table.ensures _ c.in_err-d.was)))

pub returns-in_err-d-clause-tally : goal.returns-in_err-d-clause-tally
returns-in_err-d-clause-tally c =
    λ e. none_some (sym e ∙ front-refuses _ _ (refused_first _ _ _ c.open_table.ensures _ c.in_err-d.was))

pub returns-then-plan-d-clause-verdict : goal.returns-then-plan-d-clause-verdict
unfolding verdict_of refusal_of
returns-then-plan-d-clause-verdict c =
    says-refused _ _ (plan_refused _ _ _ _ (passed_all _ _ _ c.open_table.ensures _ c.in_ok-d.was) c.if-plan-d.true)

pub returns-then-plan-d-clause-tally : goal.returns-then-plan-d-clause-tally
returns-then-plan-d-clause-tally c =
    λ e. none_some (sym e ∙ plan_refused _ _ _ _ (passed_all _ _ _ c.open_table.ensures _ c.in_ok-d.was) c.if-plan-d.true)

pub returns-then-erased-d-clause-verdict : goal.returns-then-erased-d-clause-verdict
unfolding verdict_of refusal_of
returns-then-erased-d-clause-verdict c =
    says-refused _ _ (erased_refused _ _ _ _ (passed_all _ _ _ c.open_table.ensures _ c.in_ok-d.was) c.if-plan-d.false c.if-erased-d.true)

pub returns-then-erased-d-clause-tally : goal.returns-then-erased-d-clause-tally
returns-then-erased-d-clause-tally c =
    λ e. none_some (sym e ∙ erased_refused _ _ _ _ (passed_all _ _ _ c.open_table.ensures _ c.in_ok-d.was) c.if-plan-d.false c.if-erased-d.true)

pub sound-requires : goal.sound-requires
sound-requires c = shape _ c.args.plan.now c.args.erased.now _ (passed_all _ _ _ c.open_table.ensures _ c.in_ok-d.was)

pub returns-then-not-sound-clause-verdict : goal.returns-then-not-sound-clause-verdict
unfolding verdict_of refusal_of
returns-then-not-sound-clause-verdict c =
    says-refused _ _ (table_refused _ _ _ _ (passed_all _ _ _ c.open_table.ensures _ c.in_ok-d.was) c.if-plan-d.false c.if-erased-d.false (sym c.if-not-sound.true ∙ c.sound.ensures.sound))

pub returns-then-not-sound-clause-tally : goal.returns-then-not-sound-clause-tally
returns-then-not-sound-clause-tally c =
    λ e. none_some (sym e ∙ table_refused _ _ _ _ (passed_all _ _ _ c.open_table.ensures _ c.in_ok-d.was) c.if-plan-d.false c.if-erased-d.false
    (sym c.if-not-sound.true ∙ c.sound.ensures.sound))

pub returns-clause-verdict : goal.returns-clause-verdict
unfolding verdict_of
returns-clause-verdict c =
    let p = passed_all _ _ _ c.open_table.ensures _ c.in_ok-d.was in
    says-passed _ _ (none_refused _ _ _ _ p c.if-plan-d.false c.if-erased-d.false (sym c.if-not-sound.false ∙ c.sound.ensures.sound)) (sym p.1)
