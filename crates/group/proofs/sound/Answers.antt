-- `sound` meets its contract: more than 512 slots or a slot that fails are not sound, and otherwise the owners that are left decide.
use mathlib.Core.Path.{sym, ◌∙◌}
use native.Mathlib.Omega.{arith}
use Rattle.group.proofs.Soundness.{read-many, read_plain_lem, read_unfit, read-owners}
use Rattle.group.proofs.sound.Goals as goal

pub returns-then-used-gt-SLOTS : goal.returns-then-used-gt-SLOTS
returns-then-used-gt-SLOTS c = read-many _ _ _ (omega arith)

pub returns-then-flag-eq0 : goal.returns-then-flag-eq0
returns-then-flag-eq0 c =
    read_plain_lem _ _ _ _ c.offsets_in-m.ensures.0 (sym c.flag.ensures ∙ c.if-flag-eq0.true) (omega arith) _ c.plain_pass.ensures

pub returns-then-slots_pass : goal.returns-then-slots_pass
returns-then-slots_pass c =
    let e = c.if-slots_pass.true in
    read-owners _ _ _ _ c.offsets_in-m.ensures.0 (λ z. c.if-flag-eq0.false (c.flag.ensures ∙ z)) _ _ c.copy_entries.ensures c.slots_pass.ensures.0 e (omega arith) _
    (c.slots_pass.ensures.1 e) _ c.unowned.ensures

pub returns-else-slots_pass : goal.returns-else-slots_pass
returns-else-slots_pass c =
    c.if-slots_pass.false
    ∙ read_unfit _ _ _ _ c.offsets_in-m.ensures.0 (λ e. c.if-flag-eq0.false (c.flag.ensures ∙ e)) _ _ c.copy_entries.ensures c.slots_pass.ensures.0 c.if-slots_pass.false
