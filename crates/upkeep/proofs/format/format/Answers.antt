-- Each refusal as the law of its return says; otherwise the blank device.
use Rattle.std.proofs.Common.{ℕ, replicate, sym, ap, ◌∙◌}
use Rattle.model.specs.Spare.{nobody}
use Rattle.answers.specs.Answers.{refusal_of, answer_by}
use Rattle.upkeep.proofs.Formatting.{format-numbers, format-state, format-spare, format_done_lem}
use Rattle.upkeep.proofs.format.format.Goals as goal

pub returns-in_default : goal.returns-in_default
unfolding answer_by refusal_of
returns-in_default c = format-numbers _ _ _ c.in_default.ensures

pub returns-then-state-state_len : goal.returns-then-state-state_len
unfolding answer_by refusal_of
returns-then-state-state_len c =
    rw (← c.in-Some.ensures) (format-state _ _ _ c.in-Some.d.limits (λ e. c.if-state-state_len.true (e ∙ sym c.state_len.ensures)))

pub returns-then-spare-spare_len : goal.returns-then-spare-spare_len
unfolding answer_by refusal_of
returns-then-spare-spare_len c =
    rw (← c.in-Some.ensures) (format-spare _ _ _ c.in-Some.d.limits (c.if-state-state_len.false ∙ c.state_len.ensures)
    (λ e. c.if-spare-spare_len.true (e ∙ sym c.spare_len.ensures)))

pub returns : goal.returns
unfolding answer_by
returns c =
    let long = c.if-spare-spare_len.false ∙ c.spare_len.ensures in
    rw (← c.in-Some.ensures) (format_done_lem _ _ _ c.in-Some.d.limits (c.if-state-state_len.false ∙ c.state_len.ensures) long _ _
    c.blank.ensures (c.erase_all.ensures ∙ ap (λ (n : ℕ). replicate n nobody) long))
