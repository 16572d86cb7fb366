-- The state is opened or not; then each refusal, in order, by what its test was of.
use Rattle.std.proofs.Common.{sym, ◌∙◌, arith}
use Rattle.std.proofs.lemmas.Result.{err_from_is_err_and}
use Rattle.calls.proofs.Refusing.{front-refuses}
use Rattle.plain.specs.Calls.{checks_of}
use Rattle.answers.specs.Answers.{refusal_of}
use Rattle.answers.specs.Opening.{verdict_of}
use Rattle.answers.proofs.Verdicts.{says-refused, says-passed, refused_first, passed_all}
use Rattle.plainstate.proofs.Shaping.{front_in}
use Rattle.plaincalls.proofs.Checking.{shape, plan_refused, table_refused, size_refused, page_refused, free_refused, none_refused}
use Rattle.plaincalls.proofs.flush.check.Goals as goal

pub returns-in_err-d : goal.returns-in_err-d
unfolding verdict_of checks_of
returns-in_err-d c =
    let p = err_from_is_err_and c.from_residual.result c.from_residual.ensures.1 in
    rw (p.1, p.2) (says-refused _ _ (front-refuses _ _ (refused_first _ _ _ c.open_table.ensures _ c.in_err-d.was)))

pub returns-then-plan-d : goal.returns-then-plan-d
unfolding verdict_of refusal_of
returns-then-plan-d c = says-refused _ _ (plan_refused _ _ _ _ (passed_all _ _ _ c.open_table.ensures _ c.in_ok-d.was) c.if-plan-d.true)

pub sound-requires : goal.sound-requires
sound-requires c = shape _ c.args.batch.now c.args.plan.now _ (passed_all _ _ _ c.open_table.ensures _ c.in_ok-d.was)

pub returns-then-not-sound : goal.returns-then-not-sound
unfolding verdict_of refusal_of
returns-then-not-sound c =
    says-refused _ _ (table_refused _ _ _ _ (passed_all _ _ _ c.open_table.ensures _ c.in_ok-d.was) c.if-plan-d.false (sym c.if-not-sound.true ∙ c.sound.ensures.sound))

pub returns-then-wrong_size : goal.returns-then-wrong_size
unfolding verdict_of refusal_of
returns-then-wrong_size c =
    says-refused _ _ (size_refused _ _ _ _ (passed_all _ _ _ c.open_table.ensures _ c.in_ok-d.was) c.if-plan-d.false (sym c.if-not-sound.false ∙ c.sound.ensures.sound)
    (sym c.if-wrong_size.true ∙ c.wrong_size.ensures))

pub returns-then-not-all_below : goal.returns-then-not-all_below
unfolding verdict_of refusal_of
returns-then-not-all_below c =
    says-refused _ _ (page_refused _ _ _ _ (passed_all _ _ _ c.open_table.ensures _ c.in_ok-d.was) c.if-plan-d.false (sym c.if-not-sound.false ∙ c.sound.ensures.sound)
    (sym c.if-wrong_size.false ∙ c.wrong_size.ensures) (sym c.if-not-all_below.true ∙ c.all_below.ensures))

pub free_count-requires : goal.free_count-requires
free_count-requires c = (front_in _ _ (shape _ c.args.batch.now c.args.plan.now _ (passed_all _ _ _ c.open_table.ensures _ c.in_ok-d.was))).0

pub returns-then-free_count-lt-NEEDED : goal.returns-then-free_count-lt-NEEDED
unfolding verdict_of refusal_of
returns-then-free_count-lt-NEEDED c =
    says-refused _ _ (free_refused _ _ _ _ (passed_all _ _ _ c.open_table.ensures _ c.in_ok-d.was) c.if-plan-d.false (sym c.if-not-sound.false ∙ c.sound.ensures.sound)
    (sym c.if-wrong_size.false ∙ c.wrong_size.ensures) (sym c.if-not-all_below.false ∙ c.all_below.ensures) _ c.free_count.ensures (omega arith))

pub returns : goal.returns
unfolding verdict_of
returns c =
    let p = passed_all _ _ _ c.open_table.ensures _ c.in_ok-d.was in
    says-passed _ _ (none_refused _ _ _ _ p c.if-plan-d.false (sym c.if-not-sound.false ∙ c.sound.ensures.sound)
    (sym c.if-wrong_size.false ∙ c.wrong_size.ensures) (sym c.if-not-all_below.false ∙ c.all_below.ensures) _ c.free_count.ensures (omega arith)) (sym p.1)
