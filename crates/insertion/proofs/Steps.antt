-- Bytes that hold a list of records: their slots, and the sums over the records, which tell how many there are, whether all are sound
-- and whose the offsets are. Assumes nothing.
use mathlib.Core.Path.{◌≡◌, refl, ◌∙◌, ap}
use mathlib.Core.List.{List, [], ◌∷◌}
use mathlib.Core.Option.{Option, none, some}
use mathlib.Core.Bool.{Bool, true, false, not}
use Prim.Native.Nat.{ℕ, zero, suc, ◌+◌, ◌<◌}
use native.Mathlib.Omega.{arith}
use lib.ListN.{length, get_or, set, length-map, get_or-map}
use Rattle.model.specs.Lists.{all}
use Rattle.model.specs.Record.{Record}
use Rattle.model.specs.Sound.{sound_record}
use Rattle.model.specs.Totals.{total, indicator}
use Rattle.model.proofs.Bools.{all_head, all_tail, all_cons}
use Rattle.octets.specs.Slots.{insert_at, remove_at}
use Rattle.group.specs.declared.Slot.{Slot}
use Rattle.group.specs.Layout.{slots_of}
use Rattle.group.specs.Cutting.{Placed}
use Rattle.group.specs.Held.{slot_for}
use Rattle.group.specs.Answers as answers
use Rattle.slots.specs.View.{Room}
use Rattle.insertion.specs.Slots.{no_slot, slot, held_at, records, keep_at}
use Rattle.insertion.specs.Shown.{Shown}

-- what a record that may be gone adds to a sum
abbrev pub worth : (Record → ℕ) → Option Record → ℕ
worth m none = 0
worth m (some r) = m r

module _ (m : Record → ℕ) where
  -- a slot taken out, replaced, put in
  pub remove-total : (i : ℕ) (l : List Placed) → i < length l → total m (records (remove_at i l)) + m (held_at i l) ≡ total m (records l)
  unfolding total remove_at
  remove-total i [] h = absurd (omega arith)
  remove-total zero (s ∷ l) h = omega arith
  remove-total (suc i) (s ∷ l) h = omega (arith, remove-total i l (omega arith))

  set-total : (i : ℕ) (s : Placed) (l : List Placed) → i < length l → total m (records (set l i s)) ≡ m s.item + total m (records (remove_at i l))
  unfolding total remove_at
  set-total i s [] h = absurd (omega arith)
  set-total zero s (t ∷ l) h = refl
  set-total (suc i) s (t ∷ l) h = omega (arith, set-total i s l (omega arith))

  pub insert-total : (i : ℕ) (s : Placed) (l : List Placed) → total m (records (insert_at i s l)) ≡ m s.item + total m (records l)
  unfolding total insert_at
  insert-total zero s l = refl
  insert-total (suc i) s [] = refl
  insert-total (suc i) s (t ∷ l) = omega (arith, insert-total i s l)

  pub keep-total : (i n : ℕ) (x : Option Record) (l : List Placed) → i < length l → total m (records (keep_at i n x l)) ≡ worth m x + total m (records (remove_at i l))
  unfolding keep_at
  keep-total i n none l h = omega arith
  keep-total i n (some r) l h = set-total i (slot n r) l h

-- each record counts
pub count-total : (l : List Placed) → total (λ r. 1) (records l) ≡ length l
unfolding total
count-total [] = refl
count-total (s ∷ l) = omega (arith, count-total l)

-- 0 of a sound record, 1 of another
abbrev pub fault : Record → ℕ
fault r = indicator (not (sound_record 256 0 r))

pub no_fault : (r : Record) → fault r ≡ 0 → sound_record 256 0 r ≡ true
no_fault r h = go (sound_record 256 0 r) h
  where
    go : (t : Bool) → indicator (not t) ≡ 0 → t ≡ true
    go true e = refl
    go false e = absurd (omega arith)

pub faults_none : (l : List Record) → all (sound_record 256 0) l ≡ true → total fault l ≡ 0
unfolding total
faults_none [] h = refl
faults_none (r ∷ l) h = omega (arith, ap (λ (t : Bool). indicator (not t)) (all_head (sound_record 256 0) r l h), faults_none l (all_tail (sound_record 256 0) r l h))

pub none_faulty : (l : List Record) → total fault l ≡ 0 → all (sound_record 256 0) l ≡ true
unfolding total all
none_faulty [] h = refl
none_faulty (r ∷ l) h = all_cons (sound_record 256 0) r l (no_fault r (omega arith)) (none_faulty l (omega arith))

-- a slot is there still
pub still_inside : (b c : List ℕ) (i : ℕ) → slots_of c ≡ slots_of b → i < length (slots_of b) → i < length (slots_of c)
still_inside b c i same h = rw same h

module _ (b : List ℕ) (l : List Placed) (shown : Shown b l) where
  pub shown-length : length (slots_of b) ≡ length l
  shown-length = ap (λ (k : List Slot). length k) shown.slots ∙ length-map l slot_for

  pub shown-room : Room b
  shown-room = (shown.size, omega (arith, shown-length, shown.room))

  pub shown-slot : (i : ℕ) → get_or (slots_of b) i answers.no_slot ≡ slot_for (get_or l i no_slot)
  shown-slot i = ap (λ (k : List Slot). get_or k i answers.no_slot) shown.slots ∙ get_or-map slot_for l i no_slot
