-- The state is opened or not; then each refusal, in order, by what its test was of. Assumes nothing.
use Rattle.std.proofs.Common.{ℕ, List, length, sym, ap, ◌∙◌, arith}
use Rattle.std.proofs.lemmas.Result.{err_from_is_err_and}
use Rattle.model.specs.State.{free_blocks}
use Rattle.calls.specs.Flush.{flush_checks}
use Rattle.calls.specs.History.{lend}
use Rattle.calls.proofs.Refusing.{front-refuses}
use Rattle.answers.specs.Answers.{refusal_of}
use Rattle.answers.specs.Opening.{verdict_of}
use Rattle.answers.proofs.Verdicts.{says-refused, says-passed, refused_first, passed_all}
use Rattle.state.specs.Reading.{read_state}
use Rattle.state.proofs.Refusing.{opened_with_lem}
use Rattle.state.proofs.Shaping.{front_in, counts_are}
use Rattle.flush.proofs.Checking.{unplanned, unsound, ill_sized, outside, few_free, admits}
use Rattle.flush.proofs.check.Goals as goal

pub returns-in_err-d : goal.returns-in_err-d
unfolding verdict_of flush_checks lend
returns-in_err-d c =
    let p = err_from_is_err_and c.from_residual.result c.from_residual.ensures.1 in
    rw (p.1, p.2) (says-refused _ _ (front-refuses _ _ (refused_first _ _ _ c.open_with_spare.ensures _ c.in_err-d.was)))

pub returns-then-plan-d : goal.returns-then-plan-d
unfolding verdict_of refusal_of
returns-then-plan-d c = says-refused _ _ (unplanned _ _ _ _ _ (passed_all _ _ _ c.open_with_spare.ensures _ c.in_ok-d.was) c.if-plan-d.true)

pub sound-requires : goal.sound-requires
sound-requires c =
    let p = passed_all _ _ _ c.open_with_spare.ensures _ c.in_ok-d.was in
    (opened_with_lem (read_state c.args.state.now) c.args.spare.now _ p.0 p.1).0

pub returns-then-not-sound : goal.returns-then-not-sound
unfolding verdict_of refusal_of
returns-then-not-sound c =
    says-refused _ _
    (unsound _ _ _ _ _ (passed_all _ _ _ c.open_with_spare.ensures _ c.in_ok-d.was) c.if-plan-d.false (sym c.sound.ensures ∙ c.if-not-sound.true))

pub returns-then-wrong_size : goal.returns-then-wrong_size
unfolding verdict_of refusal_of
returns-then-wrong_size c =
    says-refused _ _
    (ill_sized _ _ _ _ _ (passed_all _ _ _ c.open_with_spare.ensures _ c.in_ok-d.was) c.if-plan-d.false (sym c.sound.ensures ∙ c.if-not-sound.false)
    (sym c.wrong_size.ensures ∙ c.if-wrong_size.true))

pub returns-then-not-all_below : goal.returns-then-not-all_below
unfolding verdict_of refusal_of
returns-then-not-all_below c =
    says-refused _ _
    (outside _ _ _ _ _ (passed_all _ _ _ c.open_with_spare.ensures _ c.in_ok-d.was) c.if-plan-d.false (sym c.sound.ensures ∙ c.if-not-sound.false)
    (sym c.wrong_size.ensures ∙ c.if-wrong_size.false) (sym c.all_below.ensures ∙ c.if-not-all_below.true))

pub free_count-few-requires : goal.free_count-few-requires
free_count-few-requires c =
    let p = passed_all _ _ _ c.open_with_spare.ensures _ c.in_ok-d.was in
    (front_in _ _ (opened_with_lem (read_state c.args.state.now) c.args.spare.now _ p.0 p.1).0).0

pub returns-then-few : goal.returns-then-few
unfolding verdict_of refusal_of
returns-then-few c =
    let p = passed_all _ _ _ c.open_with_spare.ensures _ c.in_ok-d.was in
    let shape = (opened_with_lem (read_state c.args.state.now) c.args.spare.now _ p.0 p.1).0 in
    says-refused _ _
    (few_free _ _ _ _ _ p c.if-plan-d.false (sym c.sound.ensures ∙ c.if-not-sound.false) (sym c.wrong_size.ensures ∙ c.if-wrong_size.false)
    (sym c.all_below.ensures ∙ c.if-not-all_below.false)
    (omega (arith, ap (λ (cs : List ℕ). length (free_blocks 0 cs)) (counts_are _ _ shape))))

pub returns : goal.returns
unfolding verdict_of
returns c =
    let p = passed_all _ _ _ c.open_with_spare.ensures _ c.in_ok-d.was in
    let shape = (opened_with_lem (read_state c.args.state.now) c.args.spare.now _ p.0 p.1).0 in
    says-passed _ _
    (admits _ _ _ _ _ p c.if-plan-d.false (sym c.sound.ensures ∙ c.if-not-sound.false) (sym c.wrong_size.ensures ∙ c.if-wrong_size.false)
    (sym c.all_below.ensures ∙ c.if-not-all_below.false)
    (omega (arith, ap (λ (cs : List ℕ). length (free_blocks 0 cs)) (counts_are _ _ shape)))) (sym p.1)
