-- What is read off a group's slots is the group's: its records, how many they and the levels are, and tests of all slots. Assumes nothing.
use mathlib.Core.Path.{◌≡◌, refl, sym, ◌∙◌, ap}
use mathlib.Core.List.{List, [], ◌∷◌, ◌++◌, map, flatten}
use mathlib.Core.Bool.{true≢false, Bool, true}
use Prim.Native.Nat.{ℕ, suc, ◌+◌, ◌≤◌, ◌<◌}
use native.Mathlib.Omega.{arith}
use lib.ListN.{length, length-append, length-map}
use Rattle.model.specs.Lists.{all}
use Rattle.model.specs.Record.{Record}
use Rattle.model.specs.Levels.{Level, Group, listing, record_count}
use Rattle.model.specs.Sound.{is_filled}
use Rattle.model.proofs.Bools.{all_head, all_tail, all_cons}
use Rattle.group.specs.declared.Slot.{Slot}
use Rattle.group.specs.Cutting.{Placed, flat_from, flat}
use Rattle.group.specs.Held.{slot_for, slots_for}
use Rattle.insertion.specs.Flat.{tag}
use Rattle.insertion.specs.Slots.{slot, records}

records-tag : (n : ℕ) (l : Level) (q : List Placed) → records (tag n l ++ q) ≡ l ++ records q
records-tag n [] q = refl
records-tag n (r ∷ l) q = ap (λ (m : List Record). r ∷ m) (records-tag n l q)

records_from : (n : ℕ) (g : Group) → records (flat_from n g) ≡ listing g
unfolding flat_from flatten
records_from n [] = refl
records_from n (l ∷ g) = records-tag n l (flat_from (suc n) g) ∙ ap (λ (m : List Record). l ++ m) (records_from (suc n) g)

-- The slots' records are the group's in listing order.
pub records-flat : (g : Group) → records (flat g) ≡ listing g
records-flat g = records_from 0 g

-- There are as many slots as records.
pub length-flat : (g : Group) → length (flat g) ≡ record_count g
unfolding record_count
length-flat g = sym (length-map (flat g) (λ (s : Placed). s.item)) ∙ ap (λ (m : List Record). length m) (records-flat g)

pub slots-count : (g : Group) → length (slots_for g) ≡ record_count g
slots-count g = length-map (flat g) slot_for ∙ length-flat g

levels_most : (n : ℕ) (g : Group) → all is_filled g ≡ true → length g ≤ length (flat_from n g)
unfolding flat_from is_filled
levels_most n [] h = omega arith
levels_most n ([] ∷ g) h = absurd (true≢false (sym (all_head is_filled [] g h)))
levels_most n ((r ∷ l) ∷ g) h =
    omega (arith, levels_most (suc n) g (all_tail is_filled (r ∷ l) g h), length-append (tag n l) (flat_from (suc n) g))

-- A group without empty levels has at most as many as slots.
pub levels-few : (g : Group) → all is_filled g ≡ true → length g ≤ length (flat g)
levels-few g h = levels_most 0 g h

-- Level 0's records are no more than the slots, nor are the levels below it.
pub top-length : (l : Level) (g : Group) → length l ≤ length (slots_for (l ∷ g))
unfolding flat_from
top-length [] g = omega arith
top-length (s ∷ l) g = omega (arith, top-length l g)

pub below-few : (l : Level) (g : Group) → all is_filled g ≡ true → length g ≤ length (slots_for (l ∷ g))
unfolding flat_from
below-few [] g h = omega (arith, levels_most 1 g h, length-map (flat_from 1 g) slot_for)
below-few (s ∷ l) g h = omega (arith, below-few l g h)

-- All slots pass a test that each of their levels passes.
module _ (t : Slot → Bool) where
  all_tag : (n : ℕ) (l : Level) (q : List Placed) → ((r : Record) → t (slot_for (slot n r)) ≡ true) → all t (map slot_for q) ≡ true → all t (map slot_for (tag n l ++ q)) ≡ true
  all_tag n [] q each a = a
  all_tag n (r ∷ l) q each a = all_cons t (slot_for (slot n r)) (map slot_for (tag n l ++ q)) (each r) (all_tag n l q each a)

  pub all_from : (n : ℕ) (g : Group) → ((m : ℕ) (r : Record) → n ≤ m → m < n + length g → t (slot_for (slot m r)) ≡ true) → all t (map slot_for (flat_from n g)) ≡ true
  unfolding flat_from all
  all_from n [] each = refl
  all_from n (l ∷ g) each = all_tag n l (flat_from (suc n) g) (λ r. each n r (omega arith) (omega arith)) (all_from (suc n) g (λ m r h k. each m r (omega arith) (omega arith)))
