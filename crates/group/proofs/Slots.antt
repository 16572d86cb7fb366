-- The used slots one by one, and what bytes that encode a group are: read off the definitions. Assumes nothing.
use mathlib.Core.Path.{◌≡◌, refl, ap, ◌∙◌}
use mathlib.Core.List.{List, [], ◌∷◌, map}
use mathlib.Core.Bool.{true, ◌&&◌}
use Prim.Native.Nat.{ℕ, zero, suc, ◌+◌, ◌-◌, ◌≤◌, ◌<◌}
use native.Mathlib.Omega.{arith}
use native.Mathlib.Numerals.{add-one}
use lib.Dec.{leb}
use lib.ListN.{length, get_or, length-map}
use borrow.Author.Tests.{leb-true, le-leb}
use Rattle.model.specs.Levels.{listing, record_count, group_limit}
use Rattle.model.proofs.Bools.{and_l, and_r, and_i}
use Rattle.group.specs.declared.Slot.{Slot}
use Rattle.group.specs.Layout.{used_of, slot_of, slots_from, slots_of, owner_of}
use Rattle.group.specs.Cutting.{climbs, cut}
use Rattle.group.specs.Reading.{record_of, placed_of, every_from, known, coherent, group_or, encodes, read_group}
use Rattle.group.specs.Held.{slot_for, slots_for}
use Rattle.group.specs.Answers.{no_slot}
use Rattle.group.proofs.Cutting.{listing-cut, flat-cut}

-- slot i and those behind it, of n
pub slots-step : (b : List ℕ) (n i : ℕ) → i < n → slots_from b i (n - i) ≡ slot_of b i ∷ slots_from b (i + 1) (n - (i + 1))
unfolding slots_from
slots-step b n i h =
    let e : n - i ≡ suc (n - (i + 1)) = omega arith in
    rw (e, add-one i)

pub slots_all : (b : List ℕ) (n : ℕ) → n ≡ used_of b → slots_of b ≡ slots_from b 0 (n - 0)
unfolding slots_of
slots_all b n e = let z : n - 0 ≡ used_of b = omega arith in rw z

pub slots_end : (b : List ℕ) (n i : ℕ) → n ≤ i → slots_from b i (n - i) ≡ []
unfolding slots_from
slots_end b n i h = let e : n - i ≡ 0 = omega arith in rw e

length_from : (b : List ℕ) (i n : ℕ) → length (slots_from b i n) ≡ n
unfolding slots_from
length_from b i zero = refl
length_from b i (suc n) = ap suc (length_from b (suc i) n)

pub length-slots_of : (b : List ℕ) → length (slots_of b) ≡ used_of b
unfolding slots_of
length-slots_of b = length_from b 0 (used_of b)

get_or_from : (b : List ℕ) (i n k : ℕ) → k < n → get_or (slots_from b i n) k no_slot ≡ slot_of b (i + k)
unfolding slots_from
get_or_from b i zero k h = absurd (omega arith)
get_or_from b i (suc n) zero h = let e : i + 0 ≡ i = omega arith in rw e
get_or_from b i (suc n) (suc k) h = let e : i + suc k ≡ suc i + k = omega arith in rw e (get_or_from b (suc i) n k (omega arith))

pub get_or-slots_of : (b : List ℕ) (k : ℕ) → k < length (slots_of b) → get_or (slots_of b) k no_slot ≡ slot_of b k
unfolding slots_of
get_or-slots_of b k h = let e : 0 + k ≡ k = omega arith in get_or_from b 0 (used_of b) k (omega (arith, length-slots_of b)) ∙ ap (slot_of b) e

-- slots and owners that make a group
pub record Coherent (l : List Slot) (w : ℕ → ℕ) : Type 0 where
  pub few : length l ≤ 512
  pub climbing : climbs 0 (map (placed_of w) l) ≡ true
  pub owners : every_from (λ o. known l (w o)) 256 0 ≡ true

pub coherent-parts : (l : List Slot) (w : ℕ → ℕ) → coherent l w ≡ true → Coherent l w
unfolding coherent
coherent-parts l w h =
    let a : (leb (length l) group_limit && climbs 0 (map (placed_of w) l)) ≡ true = and_l (leb (length l) group_limit && climbs 0 (map (placed_of w) l)) _ h in
    record {
      few = leb-true _ _ (and_l (leb (length l) group_limit) _ a);
      climbing = and_r (leb (length l) group_limit) _ a;
      owners = and_r (leb (length l) group_limit && climbs 0 (map (placed_of w) l)) _ h;
    }

pub parts-coherent : (l : List Slot) (w : ℕ → ℕ) → Coherent l w → coherent l w ≡ true
unfolding coherent
parts-coherent l w h = and_i _ _ (and_i _ _ (le-leb _ _ h.few) h.climbing) h.owners

-- the records of the group that the slots make
map-item : (w : ℕ → ℕ) (l : List Slot) → map (λ p. p.item) (map (placed_of w) l) ≡ map (record_of w) l
map-item w [] = refl
map-item w (s ∷ l) = ap (λ k. record_of w s ∷ k) (map-item w l)

pub listing_placed : (w : ℕ → ℕ) (l : List Slot) → listing (cut (map (placed_of w) l)) ≡ map (record_of w) l
listing_placed w l = listing-cut (map (placed_of w) l) ∙ map-item w l

-- of bytes that encode a group: the group, and its records' count
module _ (b : List ℕ) (h : encodes b ≡ true) where
  pub encoded : Coherent (slots_of b) (owner_of b)
  unfolding encodes
  encoded = coherent-parts (slots_of b) (owner_of b) h

  pub few-used : used_of b ≤ 512
  few-used = omega (arith, length-slots_of b, encoded.few)

  pub read_is : read_group b ≡ cut (map (placed_of (owner_of b)) (slots_of b))
  unfolding read_group group_or
  read_is = rw h

  pub listing-read : listing (read_group b) ≡ map (record_of (owner_of b)) (slots_of b)
  listing-read = rw read_is (listing_placed (owner_of b) (slots_of b))

  pub count-read : record_count (read_group b) ≡ used_of b
  unfolding record_count
  count-read = ap length listing-read ∙ length-map (slots_of b) (record_of (owner_of b)) ∙ length-slots_of b

  slots-back : (w : ℕ → ℕ) (l : List Slot) → map slot_for (map (placed_of w) l) ≡ l
  slots-back w [] = refl
  slots-back w (s ∷ l) = ap (λ k. s ∷ k) (slots-back w l)

  -- the slots that the group takes are those that it is read from
  pub slots_read : slots_for (read_group b) ≡ slots_of b
  slots_read =
      ap slots_for read_is
      ∙ ap (map slot_for) (flat-cut (map (placed_of (owner_of b)) (slots_of b)) encoded.climbing)
      ∙ slots-back (owner_of b) (slots_of b)

  pub slot_read : (k : ℕ) → k < used_of b → get_or (slots_for (read_group b)) k no_slot ≡ slot_of b k
  slot_read k l = ap (λ (m : List Slot). get_or m k no_slot) slots_read ∙ get_or-slots_of b k (omega (arith, length-slots_of b))
