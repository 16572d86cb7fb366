-- Insertion and compaction leave a group's records sound. Assumes nothing.
use mathlib.Core.Path.{◌≡◌, refl, sym, ap}
use mathlib.Core.List.{List, [], ◌∷◌}
use mathlib.Core.Bool.{true≢false, Bool, true, false, not}
use Prim.Native.Nat.{ℕ, ◌≤◌}
use native.Mathlib.Omega.{arith}
use Rattle.model.specs.Lists.{all}
use Rattle.model.specs.Record.{Record}
use Rattle.model.specs.Levels.{Group, listing, insert, compact}
use Rattle.model.specs.Sound.{sound_record}
use Rattle.model.specs.Totals.{total, indicator}
use Rattle.model.proofs.Bools.{all_head, all_tail, all_cons}
use Rattle.model.proofs.Total.{Lessens, total-insert, total-compact}
use Rattle.model.proofs.SoundRecord.{shrunk-sound}

module _ (N k : ℕ) where
  -- 0 of a sound record, 1 of another
  fault : Record → ℕ
  fault r = indicator (not (sound_record N k r))

  fault_none : (r : Record) → sound_record N k r ≡ true → fault r ≡ 0
  unfolding fault
  fault_none r h = ap (λ (t : Bool). indicator (not t)) h

  none_fault : (r : Record) → fault r ≡ 0 → sound_record N k r ≡ true
  unfolding fault
  none_fault r h = go (sound_record N k r) h
    where
      go : (t : Bool) → indicator (not t) ≡ 0 → t ≡ true
      go true e = refl
      go false e = absurd (omega arith)

  fault_lessens : Lessens fault
  unfolding fault
  fault_lessens lost r s e = go (sound_record N k r) (sound_record N k s) (λ h. shrunk-sound N k lost r s h e)
    where
      go : (a b : Bool) → (a ≡ true → b ≡ true) → indicator (not b) ≤ indicator (not a)
      go a true f = omega arith
      go true false f = absurd (true≢false (sym (f refl)))
      go false false f = omega arith

  sound-total : (l : List Record) → all (sound_record N k) l ≡ true → total fault l ≡ 0
  unfolding total
  sound-total [] h = refl
  sound-total (r ∷ l) h = omega (arith, fault_none r (all_head (sound_record N k) r l h), sound-total l (all_tail (sound_record N k) r l h))

  total-sound : (l : List Record) → total fault l ≡ 0 → all (sound_record N k) l ≡ true
  unfolding total all
  total-sound [] h = refl
  total-sound (r ∷ l) h = all_cons (sound_record N k) r l (none_fault r (omega arith)) (total-sound l (omega arith))

  -- A sound record inserted among sound ones leaves sound ones.
  pub insert-records : (r : Record) (g : Group) → sound_record N k r ≡ true → all (sound_record N k) (listing g) ≡ true → all (sound_record N k) (listing (insert r g)) ≡ true
  insert-records r g h a =
      total-sound (listing (insert r g)) (omega (arith, total-insert fault fault_lessens r g, fault_none r h, sound-total (listing g) a))

  -- Compaction of sound records leaves sound ones.
  pub compact-records : (g : Group) → all (sound_record N k) (listing g) ≡ true → all (sound_record N k) (listing (compact g)) ≡ true
  compact-records g a = total-sound (listing (compact g)) (omega (arith, total-compact fault fault_lessens g, sound-total (listing g) a))
