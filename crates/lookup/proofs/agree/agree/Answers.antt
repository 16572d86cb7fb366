-- The refusals of the first state, then of the second, by what their check answered; then what comparing gives.
use Rattle.std.proofs.Common.{◌∙◌}
use Rattle.std.proofs.lemmas.Result.{err_from_is_err_and}
use Rattle.answers.specs.Answers.{answer_by}
use Rattle.answers.proofs.Verdicts.{refused_first, passed_all}
use Rattle.state.specs.Reading.{read_state}
use Rattle.lookup.proofs.Agreeing.{clear-passed, first_refuses, second-refuses, ran-compared, first_unnamed, second-unnamed, other_numbers, self_answers, self_refuses}
use Rattle.lookup.proofs.agree.agree.Goals as goal

pub returns-in_err-numbers_a : goal.returns-in_err-numbers_a
unfolding answer_by
returns-in_err-numbers_a c s spare =
    let e = err_from_is_err_and c.from_residual.result c.from_residual.ensures.1 in
    rw (e.1, e.2) (first_refuses _ _ _ _ s spare _ (refused_first _ _ _ c.check.ensures _ c.in_err-numbers_a.was))

pub returns-in_err-numbers_b : goal.returns-in_err-numbers_b
unfolding answer_by
returns-in_err-numbers_b c s spare =
    let e = err_from_is_err_and c.from_residual-in_err-numbers_b.result c.from_residual-in_err-numbers_b.ensures.1 in
    let a = passed_all _ (read_state c.args.state_a.now).device _ c.check.ensures _ c.in_ok-numbers_a.was in
    rw (e.1, e.2) (second-refuses _ _ _ _ s spare a.0 _ (refused_first _ _ _ c.check-2.ensures _ c.in_err-numbers_b.was))

pub invariant_of-a : goal.invariant_of-a
invariant_of-a c = let a = passed_all _ (read_state c.args.state_a.now).device _ c.check.ensures _ c.in_ok-numbers_a.was in record { passed = clear-passed _ _ _ a.0 a.1 }

pub invariant_of-b : goal.invariant_of-b
invariant_of-b c = let b = passed_all _ (read_state c.args.state_b.now).device _ c.check-2.ensures _ c.in_ok-numbers_b.was in record { passed = clear-passed _ _ _ b.0 b.1 }

pub returns-then-a-b : goal.returns-then-a-b
returns-then-a-b c s spare =
    let a = passed_all _ (read_state c.args.state_a.now).device _ c.check.ensures _ c.in_ok-numbers_a.was in
    let b = passed_all _ (read_state c.args.state_b.now).device _ c.check-2.ensures _ c.in_ok-numbers_b.was in
    ran-compared _ _ _ _ s spare a.0 b.0 _ c.compare.ensures

pub invariant_of-a-2 : goal.invariant_of-a-2
invariant_of-a-2 c = let a = passed_all _ (read_state c.args.state_a.now).device _ c.check.ensures _ c.in_ok-numbers_a.was in record { passed = clear-passed _ _ _ a.0 a.1 }

pub returns-in_err-compare : goal.returns-in_err-compare
unfolding answer_by
returns-in_err-compare c s spare =
    let e = err_from_is_err_and c.from_residual-in_err-compare.result c.from_residual-in_err-compare.ensures.1 in
    let a = passed_all _ (read_state c.args.state_a.now).device _ c.check.ensures _ c.in_ok-numbers_a.was in
    let b = passed_all _ (read_state c.args.state_b.now).device _ c.check-2.ensures _ c.in_ok-numbers_b.was in
    let seven = self_refuses _ _ _ c.in_err-compare.ensures in
    rw (e.1, e.2) (ran-compared _ _ _ _ s spare a.0 b.0 _ (seven.0 ∙ first_unnamed _ _ _ _ seven.1))

pub invariant_of-b-2 : goal.invariant_of-b-2
invariant_of-b-2 c = let b = passed_all _ (read_state c.args.state_b.now).device _ c.check-2.ensures _ c.in_ok-numbers_b.was in record { passed = clear-passed _ _ _ b.0 b.1 }

pub returns-in_err-compare-2 : goal.returns-in_err-compare-2
unfolding answer_by
returns-in_err-compare-2 c s spare =
    let e = err_from_is_err_and c.from_residual-in_err-compare-2.result c.from_residual-in_err-compare-2.ensures.1 in
    let a = passed_all _ (read_state c.args.state_a.now).device _ c.check.ensures _ c.in_ok-numbers_a.was in
    let b = passed_all _ (read_state c.args.state_b.now).device _ c.check-2.ensures _ c.in_ok-numbers_b.was in
    let seven = self_refuses _ _ _ c.in_err-compare-2.ensures in
    rw (e.1, e.2) (ran-compared _ _ _ _ s spare a.0 b.0 _ (seven.0 ∙ second-unnamed _ _ _ _ seven.1))

pub returns : goal.returns
unfolding answer_by
returns c s spare =
    let a = passed_all _ (read_state c.args.state_a.now).device _ c.check.ensures _ c.in_ok-numbers_a.was in
    let b = passed_all _ (read_state c.args.state_b.now).device _ c.check-2.ensures _ c.in_ok-numbers_b.was in
    ran-compared _ _ _ _ s spare a.0 b.0 _
    (other_numbers _ _ _ _ _ _ (clear-passed _ _ _ a.0 a.1) (clear-passed _ _ _ b.0 b.1) (self_answers _ _ _ c.in_ok-compare.ensures) (self_answers _ _ _ c.in_ok-compare-2.ensures) (λ z. c.if-a-b.false z))
