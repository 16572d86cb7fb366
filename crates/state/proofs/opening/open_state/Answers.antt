-- Each return by its law; the numbers read are those of the state.
use Rattle.std.proofs.Common.{sym, ap, ◌∙◌}
use Rattle.model.specs.Device.{within_limits, head_length, state_length}
use Rattle.answers.specs.Answers.{refusal_of}
use Rattle.answers.specs.Opening.{verdict_of}
use Rattle.answers.proofs.Verdicts.{says-refused, says-passed}
use Rattle.state.specs.Reading.{read_state}
use Rattle.state.proofs.Refusing.{too_short_lem, not_within, not_long, is_open}
use Rattle.state.proofs.opening.open_state.Goals as goal

pub numbers-requires : goal.numbers-requires
unfolding head_length
numbers-requires c = c.if-state-lt-HEAD.false

pub returns-then-state-lt-HEAD : goal.returns-then-state-lt-HEAD
unfolding verdict_of refusal_of read_state head_length
returns-then-state-lt-HEAD c =
    let s = read_state c.args.state.now in says-refused _ s.device (too_short_lem s c.if-state-lt-HEAD.true)

pub returns-in_default : goal.returns-in_default
unfolding verdict_of refusal_of read_state head_length
returns-in_default c =
    let s = read_state c.args.state.now in
    says-refused _ s.device (not_within s c.if-state-lt-HEAD.false
    (ap within_limits (sym c.numbers.ensures) ∙ c.in_default.ensures))

pub returns-then-state-state_len : goal.returns-then-state-state_len
unfolding verdict_of refusal_of read_state head_length
returns-then-state-state_len c =
    let s = read_state c.args.state.now in
    let read = c.in-Some.ensures ∙ c.numbers.ensures in
    says-refused _ s.device (not_long s c.if-state-lt-HEAD.false
    (ap within_limits (sym read) ∙ c.in-Some.d.limits)
    (λ e. c.if-state-state_len.true (e ∙ ap state_length (sym read) ∙ sym c.state_len.ensures)))

pub returns : goal.returns
unfolding verdict_of read_state head_length
returns c =
    let s = read_state c.args.state.now in
    let read = c.in-Some.ensures ∙ c.numbers.ensures in
    says-passed _ s.device (is_open s c.if-state-lt-HEAD.false
    (ap within_limits (sym read) ∙ c.in-Some.d.limits)
    (c.if-state-state_len.false ∙ c.state_len.ensures ∙ ap state_length read)) read
