-- `plain_pass` meets its contract: each slot of the pass turn by turn.
use mathlib.Core.Path.{refl, sym, ap, ◌∙◌}
use Prim.Native.Nat.{◌≤◌}
use native.Mathlib.Omega.{arith}
use Rattle.group.specs.Checking.{end_of, slots_pass, no_owners}
use Rattle.group.proofs.Slots.{slots_all}
use Rattle.group.proofs.Turns.{slots_first, stood, behind_last, slot_unfit, slot_fails, slot-holds, slots-done, plain-approx, plain_other}
use Rattle.group.proofs.plain_pass.Goals as goal

pub loop-i-init : goal.loop-i-init
loop-i-init c = record {
  few = omega arith;
  last = (omega arith, omega arith);
  rest = slots_first _ 256 _ _ ∙ ap (slots_pass _ 0 256 no_owners) (slots_all _ _ c.used-end.ensures.0);
}

pub loop-i-preserved : goal.loop-i-preserved
loop-i-preserved c =
    let slot = c.slot_at-s in
    let stands = c.stands.ensures in
    let fit = c.if-not-stands.false in
    let plain = plain_other slot.result.held (λ e. omega arith) in
    let below : end_of slot.result.held ≤ 255 = omega (arith, stood _ _ _ slot.result (sym stands ∙ fit), c.requires.2) in
    record {
      few = c.loop-i.invariant.few;
      last = behind_last slot.result below;
      rest = c.loop-i.invariant.rest ∙ slot-holds _ _ _ _ _ _ _ c.loop-i-test.true _ slot.ensures.0 _ stands _ plain.0 fit refl _ plain.1;
    }

pub returns-then-approximate : goal.returns-then-approximate
returns-then-approximate c =
    sym (c.loop-i.invariant.rest ∙ slot_fails _ _ _ _ _ _ _ c.loop-i-test.true c.slot_at-s.result c.slot_at-s.ensures.0 _ refl _ (plain-approx _ (omega arith)) refl)

pub returns-then-not-stands : goal.returns-then-not-stands
returns-then-not-stands c =
    sym (c.loop-i.invariant.rest ∙ slot_unfit _ _ _ _ _ _ _ c.loop-i-test.true _ c.slot_at-s.ensures.0 _ c.stands.ensures c.if-not-stands.true)

pub returns : goal.returns
returns c = sym (c.loop-i.invariant.rest ∙ (slots-done _ _ _ _ _ _ _ c.loop-i-test.false).0)
