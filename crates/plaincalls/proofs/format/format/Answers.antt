-- Each refusal as the law of its return says; otherwise the blank device.
use Rattle.std.proofs.Common.{sym, ◌∙◌}
use Rattle.answers.specs.Answers.{refusal_of, answer_by}
use Rattle.plaincalls.proofs.Formatting.{format-numbers, format-length, format_done_lem}
use Rattle.plaincalls.proofs.format.format.Goals as goal

pub returns-in_default : goal.returns-in_default
unfolding answer_by refusal_of
returns-in_default c = format-numbers _ _ c.in_default.ensures

pub returns-then-state-table_len : goal.returns-then-state-table_len
unfolding answer_by refusal_of
returns-then-state-table_len c =
    rw (← c.in-Some.ensures) (format-length _ _ c.in-Some.d.limits (λ e. c.if-state-table_len.true (e ∙ sym c.table_len.ensures)))

pub returns : goal.returns
unfolding answer_by
returns c =
    rw (← c.in-Some.ensures) (format_done_lem _ _ c.in-Some.d.limits (c.if-state-table_len.false ∙ c.table_len.ensures) _ c.blank.ensures)
