-- Each return by its law; the numbers read are those of the state.
use Rattle.std.proofs.Common.{sym, ap, ◌∙◌}
use Rattle.model.specs.Device.{within_limits, head_length}
use Rattle.plain.specs.Table.{table_length}
use Rattle.answers.specs.Answers.{refusal_of}
use Rattle.answers.specs.Opening.{verdict_of}
use Rattle.answers.proofs.Verdicts.{says-refused, says-passed}
use Rattle.plainstate.specs.Reading.{read_table}
use Rattle.plainstate.proofs.Refusing.{too_short_lem, not_within, not_long, is_open}
use Rattle.plainstate.proofs.opening.open_table.Goals as goal

pub returns-then-state-lt-HEAD : goal.returns-then-state-lt-HEAD
unfolding verdict_of refusal_of read_table head_length
returns-then-state-lt-HEAD c = says-refused _ _ (too_short_lem (read_table c.args.state.now) c.if-state-lt-HEAD.true)

pub numbers-requires : goal.numbers-requires
unfolding head_length
numbers-requires c = c.if-state-lt-HEAD.false

pub returns-in_default : goal.returns-in_default
unfolding verdict_of refusal_of read_table head_length
returns-in_default c =
    says-refused _ _ (not_within (read_table c.args.state.now) c.if-state-lt-HEAD.false
    (ap within_limits (sym c.numbers.ensures) ∙ c.in_default.ensures))

pub returns-then-state-table_len : goal.returns-then-state-table_len
unfolding verdict_of refusal_of read_table head_length
returns-then-state-table_len c =
    let read = c.in-Some.ensures ∙ c.numbers.ensures in
    says-refused _ _ (not_long (read_table c.args.state.now) c.if-state-lt-HEAD.false
    (ap within_limits (sym read) ∙ c.in-Some.d.limits)
    (λ e. c.if-state-table_len.true (e ∙ ap table_length (sym read) ∙ sym c.table_len.ensures)))

pub returns : goal.returns
unfolding verdict_of read_table head_length
returns c =
    let read = c.in-Some.ensures ∙ c.numbers.ensures in
    says-passed _ _ (is_open (read_table c.args.state.now) c.if-state-lt-HEAD.false
    (ap within_limits (sym read) ∙ c.in-Some.d.limits)
    (c.if-state-table_len.false ∙ c.table_len.ensures ∙ ap table_length read)) read
