-- The condition isn't met, and nothing is changed; or it is, and gives what the pass requires.
use Rattle.std.proofs.Common.{sym, ◌∙◌}
use Rattle.probe.proofs.Passing.{no_device, programmable-parts, not_programmed, is_programmed}
use Rattle.probe.proofs.passes.probe_program.Goals as goal

pub returns-in_default : goal.returns-in_default
returns-in_default c = not_programmed _ _ _ _ _ _ (sym (no_device _ _ _ _ _ c.in_default.ensures))

pub returns-then-not-may_program : goal.returns-then-not-may_program
returns-then-not-may_program c =
    rw (← c.in-Some.ensures) (not_programmed _ _ _ _ _ _ (sym c.may_program.ensures ∙ c.if-not-may_program.true))

pub program_block-requires : goal.program_block-requires
program_block-requires c = programmable-parts _ _ _ _ _ (sym c.may_program.ensures ∙ c.if-not-may_program.false)

pub returns : goal.returns
returns c =
    rw (← c.in-Some.ensures) (is_programmed _ _ _ _ _ _ (sym c.may_program.ensures ∙ c.if-not-may_program.false) _ c.program_block.ensures.spare_after)
