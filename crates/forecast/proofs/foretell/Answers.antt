-- `foretell` meets its contract: a slot's record is put in before those behind it.
use mathlib.Core.Path.{◌≡◌, ap}
use mathlib.Core.List.{List}
use Prim.Native.Nat.{ℕ, ◌+◌, ◌-◌, ◌*◌, ◌≤◌, ◌<◌}
use native.Mathlib.Omega.{arith}
use borrow.Author.Rules.{rules}
use Rattle.group.specs.declared.Slot.{Slot}
use Rattle.group.specs.Layout.{used_of, slot_of}
use Rattle.group.specs.Reading.{SoundBytes}
use Rattle.group.proofs.Slots.{few-used}
use Rattle.group.proofs.Soundness.{sound-encodes}
use Rattle.forecast.specs.Forecast.{level_unit}
use Rattle.forecast.proofs.Foretelling.{says_none, says_slot, says_all, slot_anywhere, level-low, levels-low}
use Rattle.forecast.proofs.Nearing.{near_most}
use Rattle.forecast.proofs.foretell.Goals as goal

-- the group that the bytes encode has few slots
few : (b : List ℕ) → SoundBytes b → (m : ℕ) → m ≡ used_of b → m ≤ 512
few b s m e = omega (arith, few-used b (sound-encodes _ _ _ s.sound))

-- and a slot a low level
low : (b : List ℕ) → SoundBytes b → (m i : ℕ) → m ≡ used_of b → i < m → (s : Slot) → s ≡ slot_of b i → s.level < 512
low b g m i e h s is =
    let l : i < used_of b = omega arith in
    omega (arith, level-low b (sound-encodes _ _ _ g.sound) i l, ap (λ (x : Slot). x.level) is, few b g m e)

pub levels_at-n-requires : goal.levels_at-n-requires
levels_at-n-requires c = (c.requires.0, few _ c.requires.1 _ c.used-m.ensures.0)

pub overflow_mul-n : goal.overflow_mul-n
overflow_mul-n c =
    omega (arith, c.levels_at-n.ensures, levels-low _ (sound-encodes _ _ _ c.requires.1.sound) _ c.used-m.ensures.0, few _ c.requires.1 _ c.used-m.ensures.0)

pub loop-i-init : goal.loop-i-init
loop-i-init c = record { few = few _ c.requires.1 _ c.used-m.ensures.0; says = says_none _ _ _ _ _ (ap (λ (x : ℕ). x * level_unit) c.levels_at-n.ensures) c.requires.2 (c.fill.ensures.after (search rules)) }

pub slot_at-s-requires : goal.slot_at-s-requires
slot_at-s-requires c = (c.requires.0, omega arith)

pub overflow_mul-first : goal.overflow_mul-first
overflow_mul-first c = let s = c.slot_at-s in omega (arith, low _ c.requires.1 _ _ c.used-m.ensures.0 (omega arith) s.result s.ensures.0)

pub overflow_add-first-in-loop-i : goal.overflow_add-first-in-loop-i
overflow_add-first-in-loop-i c = let s = c.slot_at-s in omega (arith, low _ c.requires.1 _ _ c.used-m.ensures.0 (omega arith) s.result s.ensures.0, near_most s.result.held.intercept)

pub put_record-requires : goal.put_record-requires
put_record-requires c =
    let s = c.slot_at-s in
    let used : c.loop-i.i - 1 < c.used-m.result = omega arith in (
      c.requires.0,
      c.loop-i.invariant.says.long,
      omega (arith, low _ c.requires.1 _ _ c.used-m.ensures.0 used s.result s.ensures.0, near_most s.result.held.intercept),
      slot_anywhere _ c.requires.1 _ _ c.used-m.ensures.0 used _ s.ensures.0,
    )

pub loop-i-preserved : goal.loop-i-preserved
loop-i-preserved c =
    let s = c.slot_at-s in
    let used : c.loop-i.i - 1 < c.used-m.result = omega arith in
    let next : c.loop-i.i ≡ c.loop-i.i - 1 + 1 = omega arith in
    record {
      few = c.loop-i.invariant.few;
      says = says_slot _ c.requires.1 _ _ c.used-m.ensures.0 used _ s.ensures.0 _ _ _ (rw next at c.loop-i.invariant.says)
          (ap (λ (x : ℕ). (s.result.level + 1) * level_unit + x) c.near.ensures) c.put_record.ensures;
    }

pub returns : goal.returns
returns c =
    says_all _ _ _ _ (sound-encodes _ _ _ c.requires.1.sound) c.used-m.ensures.0 (omega (arith, c.loop-i-test.false)) c.loop-i.invariant.says
