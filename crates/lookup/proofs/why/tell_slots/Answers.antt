use Rattle.std.proofs.Common.{◌+◌, ℕ, sym, ap, ◌∙◌, arith}
use Rattle.std.proofs.lemmas.Bool.{eq-eqb, ne_eqb}
use lib.Dec.{eqb}
use Rattle.group.proofs.Slots.{few-used}
use Rattle.group.proofs.Soundness.{sound-encodes}
use Rattle.group.proofs.SoundSlots.{slot-inside, slot-single, slot_owns}
use Rattle.forecast.proofs.Foretelling.{level-low, levels-low}
use Rattle.lookup.proofs.WhyLeft.{owner-small, stands_by, slot-met, slot-bare, slot-above, left_all, left_over, left-done, left_next, left-levels}
use Rattle.lookup.proofs.why.tell_slots.Goals.{then-not-covers-via-then-not-covers, «then-not-covers-via-else-not-covers+then-s-k»}
use Rattle.lookup.proofs.why.tell_slots.Goals as goal

pub loop-i-init : goal.loop-i-init
loop-i-init c = left_all _ _ _ c.requires.1 c.requires.2 c.used-n.ensures.0 _

pub slot_at-s-requires : goal.slot_at-s-requires
slot_at-s-requires c =
    let few = few-used _ (sound-encodes _ _ _ c.requires.1.sound) in
    (c.requires.0, omega (arith, c.loop-i-test.true, c.used-n.ensures.0, few))

pub covers-requires : goal.covers-requires
covers-requires c = (c.requires.2, slot-inside _ c.requires.1 _ _ c.used-n.ensures.0 c.loop-i-test.true c.slot_at-s.result c.slot_at-s.ensures.0)

-- a slot is passed over that doesn't cover the offset, or whose level is told
pub loop-i-preserved-then-not-covers : goal.loop-i-preserved-then-not-covers
loop-i-preserved-then-not-covers c =
    elim c.then-not-covers.branch [
      | then-not-covers-via-then-not-covers w ↦
          left_over _ _ _ _ _ _ _ c.loop-i-test.true c.loop-i.invariant (slot-bare _ _ _ _ c.slot_at-s.result c.slot_at-s.ensures.0 (sym (c.covers.ensures _) ∙ w.if-not-covers.true))
      | «then-not-covers-via-else-not-covers+then-s-k» w ↦
          left_over _ _ _ _ _ _ _ c.loop-i-test.true c.loop-i.invariant (slot-above _ _ _ _ c.slot_at-s.result c.slot_at-s.ensures.0 w.if-s-k.true)
    ]

pub entry_for-e-requires : goal.entry_for-e-requires
entry_for-e-requires c =
    let given = c.requires in
    let used = c.used-n.ensures.0 in
    let test = c.loop-i-test.true in
    let slot = c.slot_at-s in (
      given.2,
      slot-inside _ given.1 _ _ used test slot.result slot.ensures.0,
      slot-single _ given.1 _ _ used test slot.result slot.ensures.0,
      omega (arith, c.owner-w.ensures.0, owner-small _ given.1 _ given.2),
      slot.ensures.2,
    )

pub put_gap-requires : goal.put_gap-requires
put_gap-requires c =
    let h = sound-encodes _ _ _ c.requires.1.sound in
    (omega (arith, c.loop-i.invariant.size, c.requires.3), omega (arith, few-used _ h, c.loop-i-test.true, c.used-n.ensures.0, ap (λ (s : _). s.level) c.slot_at-s.ensures.0, level-low _ h c.loop-i.i (omega (arith, c.loop-i-test.true, c.used-n.ensures.0))))

pub put_entry-requires : goal.put_entry-requires
put_entry-requires c =
    let h = sound-encodes _ _ _ c.requires.1.sound in
    (omega (arith, c.put_gap.auto.out, c.loop-i.invariant.size, c.requires.3), omega (arith, few-used _ h, c.loop-i-test.true, c.used-n.ensures.0, ap (λ (s : _). s.level) c.slot_at-s.ensures.0, level-low _ h c.loop-i.i (omega (arith, c.loop-i-test.true, c.used-n.ensures.0))), (stands_by _ _ _ _ _ c.owner-w.ensures.0 (c.entry_for-e.ensures _ (slot_owns _ c.requires.1 _ _ c.used-n.ensures.0 c.loop-i-test.true c.slot_at-s.result c.slot_at-s.ensures.0 _ c.requires.2 _ (ap (λ (v : ℕ). eqb v (c.slot_at-s.result.held.start + 1)) c.owner-w.ensures.0)))).fits)

pub returns-then-e-eq-MEMBER : goal.returns-then-e-eq-MEMBER
returns-then-e-eq-MEMBER c =
    left-done _ _ _ _ _ _ _ _ _ c.loop-i-test.true c.loop-i.invariant c.slot_at-s.result c.slot_at-s.ensures.0
    (slot-met _ _ _ _ c.slot_at-s.result c.slot_at-s.ensures.0 (sym (c.covers.ensures _) ∙ c.if-not-covers.false) c.if-s-k.false) _ (stands_by _ _ _ _ _ c.owner-w.ensures.0 (c.entry_for-e.ensures _ (slot_owns _ c.requires.1 _ _ c.used-n.ensures.0 c.loop-i-test.true c.slot_at-s.result c.slot_at-s.ensures.0 _ c.requires.2 _ (ap (λ (v : ℕ). eqb v (c.slot_at-s.result.held.start + 1)) c.owner-w.ensures.0)))) c.put_gap.ensures c.put_entry.ensures (eq-eqb _ _ c.if-e-eq-MEMBER.true)

pub loop-i-preserved : goal.loop-i-preserved
loop-i-preserved c =
    left_next _ _ _ _ _ _ _ _ _ c.loop-i-test.true c.loop-i.invariant c.slot_at-s.result c.slot_at-s.ensures.0
    (slot-met _ _ _ _ c.slot_at-s.result c.slot_at-s.ensures.0 (sym (c.covers.ensures _) ∙ c.if-not-covers.false) c.if-s-k.false) _ (stands_by _ _ _ _ _ c.owner-w.ensures.0 (c.entry_for-e.ensures _ (slot_owns _ c.requires.1 _ _ c.used-n.ensures.0 c.loop-i-test.true c.slot_at-s.result c.slot_at-s.ensures.0 _ c.requires.2 _ (ap (λ (v : ℕ). eqb v (c.slot_at-s.result.held.start + 1)) c.owner-w.ensures.0)))) c.put_gap.ensures c.put_entry.ensures (ne_eqb _ _ c.if-e-eq-MEMBER.false) (omega (arith, c.put_entry.auto.out, c.put_gap.auto.out))

pub levels_at-levels-requires : goal.levels_at-levels-requires
levels_at-levels-requires c =
    let few = few-used _ (sound-encodes _ _ _ c.requires.1.sound) in
    (c.requires.0, omega (arith, c.used-n.ensures.0, few))

pub put_gap-requires-2 : goal.put_gap-requires-2
put_gap-requires-2 c =
    let h = sound-encodes _ _ _ c.requires.1.sound in (
      omega (arith, c.loop-i.invariant.size, c.requires.3),
      omega (arith, few-used _ h, c.used-n.ensures.0, c.levels_at-levels.ensures, levels-low _ h c.used-n.result (omega (arith, c.used-n.ensures.0))),
    )

pub returns : goal.returns
returns c =
    let all = left-levels _ _ _ _ _ _ _ _ c.loop-i-test.false c.loop-i.invariant c.levels_at-levels.ensures _ c.put_gap-2.ensures in
    (omega (arith, c.max.ensures, all.0), all.1)
