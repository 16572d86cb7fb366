-- The state is opened or not; then the spare area's length decides.
use Rattle.std.proofs.Common.{sym, ap, ◌∙◌}
use Rattle.std.proofs.lemmas.Result.{err_from_is_err_and}
use Rattle.model.specs.Device.{spare_length}
use Rattle.calls.proofs.Refusing.{front-refuses}
use Rattle.answers.specs.Answers.{refusal_of}
use Rattle.answers.specs.Opening.{verdict_of}
use Rattle.answers.proofs.Verdicts.{says-refused, says-passed, refused_first, passed_all}
use Rattle.state.specs.Reading.{read_state}
use Rattle.state.proofs.Refusing.{other_spare, right-spare}
use Rattle.state.proofs.opening.open_with_spare.Goals as goal

pub returns-in_err-d : goal.returns-in_err-d
unfolding verdict_of
returns-in_err-d c =
    let p = err_from_is_err_and c.from_residual.result c.from_residual.ensures.1 in
    rw (p.1, p.2) (says-refused _ _ (front-refuses _ _ (refused_first _ _ _ c.open_state.ensures _ c.in_err-d.was)))

pub returns-then-spare-spare_len : goal.returns-then-spare-spare_len
unfolding verdict_of refusal_of
returns-then-spare-spare_len c =
    let p = passed_all _ (read_state c.args.state.now).device _ c.open_state.ensures _ c.in_ok-d.was in
    says-refused _ (read_state c.args.state.now).device (other_spare _ _ p.0 (λ e. c.if-spare-spare_len.true (e ∙ ap spare_length p.1 ∙ sym c.spare_len.ensures)))

pub returns : goal.returns
unfolding verdict_of
returns c =
    let p = passed_all _ (read_state c.args.state.now).device _ c.open_state.ensures _ c.in_ok-d.was in
    says-passed _ (read_state c.args.state.now).device (right-spare _ _ p.0 (c.if-spare-spare_len.false ∙ c.spare_len.ensures ∙ sym (ap spare_length p.1))) (sym p.1)
