-- `slots_pass` meets its contract: each slot of the pass turn by turn.
use mathlib.Core.Path.{sym, ap, ◌∙◌}
use mathlib.Core.Bool.{true≢false}
use Prim.Native.Nat.{◌≤◌}
use native.Mathlib.Omega.{arith}
use Rattle.group.specs.Checking.{end_of, left_by, slots_pass}
use Rattle.group.proofs.Slots.{slots_all}
use Rattle.group.proofs.Turns.{slots_first, stood, behind_last, slot_unfit, slot_fails, slot-holds, slot-left, slots-done}
use Rattle.group.proofs.slots_pass.Goals as goal

pub loop-i-init : goal.loop-i-init
loop-i-init c =
    let e = slots_all _ _ c.used-end.ensures.0 in
    record { few = omega arith; last = (omega arith, omega arith); rest = slots_first _ 256 _ _ ∙ ap (slots_pass _ 0 256 _) e; left = ap (left_by _) e }

pub returns-then-not-stands : goal.returns-then-not-stands
returns-then-not-stands c = (
  sym (c.loop-i.invariant.rest ∙ slot_unfit _ _ _ _ _ _ _ c.loop-i-test.true _ c.slot_at-s.ensures.0 _ c.stands.ensures c.if-not-stands.true),
  λ e. absurd (true≢false (sym e)),
)

pub owns_ends-requires : goal.owns_ends-requires
owns_ends-requires c =
    let below = stood _ _ _ c.slot_at-s.result (sym c.stands.ensures ∙ c.if-not-stands.false) in
    (omega arith, omega (arith, below, c.requires.3))

pub returns-then-not-owns_ends : goal.returns-then-not-owns_ends
returns-then-not-owns_ends c = (
  sym (c.loop-i.invariant.rest ∙ slot_fails _ _ _ _ _ _ _ c.loop-i-test.true _ c.slot_at-s.ensures.0 _ c.stands.ensures _ c.owns_ends.ensures.0 c.if-not-owns_ends.true),
  λ e. absurd (true≢false (sym e)),
)

pub loop-i-preserved : goal.loop-i-preserved
loop-i-preserved c =
    let inv = c.loop-i.invariant in
    let test = c.loop-i-test.true in
    let slot = c.slot_at-s in
    let stands = c.stands.ensures in
    let fit = c.if-not-stands.false in
    let ends = c.owns_ends.ensures in
    let own = c.if-not-owns_ends.false in
    let below : end_of slot.result.held ≤ 255 = omega (arith, stood _ _ _ slot.result (sym stands ∙ fit), c.requires.3) in
    record {
      few = inv.few;
      last = behind_last slot.result below;
      rest = inv.rest ∙ slot-holds _ _ _ _ _ _ _ test _ slot.ensures.0 _ stands _ ends.0 fit own _ (ends.1 own);
      left = inv.left ∙ slot-left _ _ _ _ _ _ _ test _ slot.ensures.0 _ stands _ (ends.1 own);
    }

pub returns : goal.returns
returns c =
    let d = slots-done _ _ _ _ _ _ _ c.loop-i-test.false in
    (sym (c.loop-i.invariant.rest ∙ d.0), λ e. sym (c.loop-i.invariant.left ∙ d.1))
