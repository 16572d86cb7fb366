-- A slot of level 0 goes, and a record moves to level 1 or to a new level 1 of its own: the writes on the slots are the sinking
-- in the group. Assumes nothing.
use mathlib.Core.Path.{◌≡◌, refl, sym, ◌∙◌, ap}
use mathlib.Core.List.{List, [], ◌∷◌, ◌++◌, map, flatten}
use mathlib.Core.Bool.{true≢false, Bool, true, false}
use Prim.Native.Nat.{ℕ, suc, ◌+◌, ◌-◌, ◌≤◌, ◌<◌}
use native.Mathlib.Omega.{arith}
use lib.ListN.{length, drop, length-append}
use lib.Seq.{drop-drop}
use borrow.Author.Tests.{lt-ltb}
use Rattle.model.specs.Lists.{all}
use Rattle.model.specs.Record as model
use Rattle.model.specs.Levels.{Level, Group, record_count, meets_any, sink}
use Rattle.model.specs.Sound.{ordered}
use Rattle.model.specs.Totals.{total}
use Rattle.model.proofs.Bools.{all_head}
use Rattle.octets.specs.Slots.{insert_at, remove_at}
use Rattle.record.specs.declared.Record.{Record}
use Rattle.record.specs.Read.{as_record, bare}
use Rattle.group.specs.declared.Slot.{Slot}
use Rattle.group.specs.Layout.{slots_of, owner_of}
use Rattle.group.specs.Cutting.{Placed, flat_from, flat}
use Rattle.group.specs.Held.{slot_for, slots_for}
use Rattle.slots.specs.View.{Shows}
use Rattle.slots.specs.Edits.{push_down_from, can_go_down}
use Rattle.slots.proofs.Maps.{map-insert_at, map-remove_at}
use Rattle.insertion.specs.Flat.{tag}
use Rattle.insertion.specs.Slots.{slot, records}
use Rattle.insertion.specs.Turns.{Laid, count_ahead, meets_first}
use Rattle.insertion.proofs.FlatParts.{insert-tag, insert-behind, flat-remove}
use Rattle.insertion.proofs.Count.{records-flat, slots-count, top-length, below-few, all_from}
use Rattle.insertion.proofs.Steps.{insert-total}
use Rattle.insertion.proofs.Joining.{found}

-- the slots behind level 0's
drop-top : (l : Level) (g : Group) → drop (length l) (slots_for (l ∷ g)) ≡ map slot_for (flat_from 1 g)
unfolding flat_from
drop-top [] g = refl
drop-top (s ∷ l) g = drop-top l g

-- pushed down they leave level 1 empty
push-tag : (n : ℕ) (l : Level) (p q : List Placed) → push_down_from 0 (map slot_for p) ≡ map slot_for q → push_down_from 0 (map slot_for (tag n l ++ p)) ≡ map slot_for (tag (suc n) l ++ q)
unfolding push_down_from
push-tag n [] p q e = e
push-tag n (s ∷ l) p q e = ap (λ (m : List Slot). slot_for (slot (suc n) s) ∷ m) (push-tag n l p q e)

push_from : (n : ℕ) (g : Group) → push_down_from 0 (map slot_for (flat_from n g)) ≡ map slot_for (flat_from (suc n) g)
unfolding flat_from push_down_from
push_from n [] = refl
push_from n (l ∷ g) = push-tag n l (flat_from (suc n) g) (flat_from (suc (suc n)) g) (push_from (suc n) g)

push-top : (l : Level) (g : Group) → push_down_from (length l) (slots_for (l ∷ g)) ≡ slots_for (l ∷ [] ∷ g)
unfolding flat_from push_down_from
push-top [] g = push_from 1 g
push-top (s ∷ l) g = ap (λ (m : List Slot). slot_for (slot 0 s) ∷ m) (push-top l g)

-- the search's place, among the slots below level 0
abbrev ahead : model.Record → Group → ℕ
ahead u g = count_ahead u.start (map slot_for (flat_from 1 g))

module _ (u : model.Record) (l : Level) where
  -- a record that meets none goes into level 1
  joined : (g : Group) → all (ordered 0) g ≡ true → meets_first (bare u) (drop (ahead u g) (map slot_for (flat_from 1 g))) ≡ false
      → insert_at (ahead u g + length l) (slot 1 u) (flat (l ∷ g)) ≡ flat (l ∷ sink u g)
  unfolding flat_from sink count_ahead insert_at
  joined [] e n = insert-behind 0 (slot 1 u) 0 l []
  joined (m ∷ g) e n =
      let f = found u 0 m g (all_head (ordered 0) m g e) in
      let free : meets_any u m ≡ false = sym f.meet ∙ n in
      rw (free, sink) (
      insert-behind (ahead u (m ∷ g)) (slot 1 u) 0 l (tag 1 m ++ flat_from 2 g)
      ∙ ap (λ (x : List Placed). tag 0 l ++ x) (insert-tag (ahead u (m ∷ g)) 1 u m (flat_from 2 g) f.few ∙ ap (λ (x : Level). tag 1 x ++ flat_from 2 g) (f.place free))
      )

  -- one that meets a record there gets a level of its own
  opened : (g : Group) → all (ordered 0) g ≡ true → meets_first (bare u) (drop (ahead u g) (map slot_for (flat_from 1 g))) ≡ true
      → insert_at (0 + length l) (slot 1 u) (flat (l ∷ [] ∷ g)) ≡ flat (l ∷ sink u g)
  unfolding flat_from sink count_ahead meets_first insert_at
  opened [] e y = absurd (true≢false (sym y))
  opened (m ∷ g) e y =
      let met : meets_any u m ≡ true = sym (found u 0 m g (all_head (ordered 0) m g e)).meet ∙ y in
      rw (met, sink) (insert-behind 0 (slot 1 u) 0 l (tag 2 m ++ flat_from 3 g))

  -- so it adds itself to the others
  pub sunk_total : (f : model.Record → ℕ) (g : Group) → all (ordered 0) g ≡ true → total f (records (flat (l ∷ sink u g))) ≡ f u + total f (records (flat (l ∷ g)))
  unfolding flatten
  sunk_total f g e = go (meets_first (bare u) (drop (ahead u g) (map slot_for (flat_from 1 g)))) refl
    where
      go : (t : Bool) → meets_first (bare u) (drop (ahead u g) (map slot_for (flat_from 1 g))) ≡ t → total f (records (flat (l ∷ sink u g))) ≡ f u + total f (records (flat (l ∷ g)))
      go false n = ap (λ (k : List Placed). total f (records k)) (sym (joined g e n)) ∙ insert-total f (ahead u g + length l) (slot 1 u) (flat (l ∷ g))
      go true m =
          ap (λ (k : List Placed). total f (records k)) (sym (opened g e m))
          ∙ insert-total f (0 + length l) (slot 1 u) (flat (l ∷ [] ∷ g))
          ∙ ap (λ (k : List model.Record). f u + total f k) (records-flat (l ∷ [] ∷ g) ∙ sym (records-flat (l ∷ g)))

module _ (b : List ℕ) (i z : ℕ) (q : Laid b i z) where
  abbrev top : Level
  top = q.at.before ++ (q.at.item ∷ q.at.behind)

  abbrev left : Level
  left = q.at.before ++ q.at.behind

  abbrev below : Group
  below = q.at.below

  length-left : suc (length left) ≡ length top
  length-left = omega (arith, length-append q.at.before (q.at.item ∷ q.at.behind), length-append q.at.before q.at.behind)

  pub laid_before : i < z
  laid_before = omega (arith, q.at.index, q.at.count, length-append q.at.before (q.at.item ∷ q.at.behind))

  pub laid_inside : z ≤ length (slots_of b)
  laid_inside = omega (arith, q.at.count, top-length top below, ap (λ (k : List Slot). length k) q.slots)

  -- levels without gaps can all go down
  pub laid_low : all can_go_down (slots_of b) ≡ true
  unfolding can_go_down
  laid_low =
      ap (all can_go_down) q.slots
      ∙ all_from can_go_down 0 (top ∷ below) (λ m r h k. lt-ltb m 65535 (omega (arith, q.room.1, ap (λ (k : List Slot). length k) q.slots, below-few top below q.at.filled)))

  behind-top : drop z (slots_of b) ≡ map slot_for (flat_from 1 below)
  behind-top = ap (λ (k : List Slot). drop z k) q.slots ∙ ap (λ (n : ℕ). drop n (slots_for (top ∷ below))) q.at.count ∙ drop-top top below

  -- the levels below go down, and are as many
  deeper : (c : List ℕ) → Shows c (push_down_from z (slots_of b)) (owner_of b) → slots_of c ≡ slots_for (top ∷ [] ∷ below)
  deeper c pushed = pushed.1 ∙ ap (push_down_from z) q.slots ∙ ap (λ (n : ℕ). push_down_from n (slots_for (top ∷ below))) q.at.count ∙ push-top top below

  pub pushed_room : (c : List ℕ) → Shows c (push_down_from z (slots_of b)) (owner_of b) → length (slots_of c) ≡ length (slots_of b)
  unfolding record_count flatten
  pushed_room c pushed = ap (λ (k : List Slot). length k) (deeper c pushed) ∙ slots-count (top ∷ [] ∷ below) ∙ sym (ap (λ (k : List Slot). length k) q.slots ∙ slots-count (top ∷ below))

  -- slot i goes
  gone : (k : List Slot) (g : Group) → k ≡ slots_for (top ∷ g) → remove_at i k ≡ slots_for (left ∷ g)
  gone k g e =
      ap (remove_at i) e
      ∙ ap (λ (n : ℕ). remove_at n (slots_for (top ∷ g))) q.at.index
      ∙ sym (map-remove_at slot_for (length q.at.before) (flat (top ∷ g)))
      ∙ ap (map slot_for) (flat-remove q.at.before q.at.item q.at.behind g)

  module _ (u : Record) (L : List ℕ) (p : ℕ) (at : p ≡ z + count_ahead u.start (drop z (slots_of b))) (t : Bool) (meet : t ≡ meets_first u (drop p (slots_of b))) where
    abbrev U : model.Record
    U = as_record u L

    place : p ≡ z + ahead U below
    place = at ∙ ap (λ (k : List Slot). z + count_ahead u.start k) behind-top

    met : meets_first u (drop (ahead U below) (map slot_for (flat_from 1 below))) ≡ t
    met = sym (meet ∙ ap (λ (k : ℕ). meets_first u (drop k (slots_of b))) place ∙ ap (meets_first u) (sym (drop-drop (ahead U below) z (slots_of b)) ∙ ap (drop (ahead U below)) behind-top))

    -- the record is put in among the slots left
    put_in_lem : (j : ℕ) (k : List Slot) (g : Group) → k ≡ slots_for (top ∷ g) → insert_at j (slot 1 U) (flat (left ∷ g)) ≡ flat (left ∷ sink U below)
        → insert_at j (record { level = 1; held = u }) (remove_at i k) ≡ slots_for (left ∷ sink U below)
    put_in_lem j k g e sunk = ap (insert_at j (record { level = 1; held = u })) (gone k g e) ∙ sym (map-insert_at slot_for j (slot 1 U) (flat (left ∷ g))) ∙ ap (map slot_for) sunk

    pub lower_joins : t ≡ false → (d : List ℕ) → Shows d (insert_at (p - 1) (record { level = 1; held = u }) (remove_at i (slots_of b))) (owner_of b)
        → Shows d (slots_for (left ∷ sink U below)) (owner_of b)
    lower_joins n d put =
        let k : p - 1 ≡ ahead U below + length left = omega (arith, place, q.at.count, length-left) in
        (put.0, put.1 ∙ put_in_lem (p - 1) (slots_of b) below q.slots (rw k (joined U left below q.at.in_order (met ∙ n))), put.2)

    pub lower_opens : t ≡ true → (c d : List ℕ) → Shows c (push_down_from z (slots_of b)) (owner_of b) → Shows d (insert_at (z - 1) (record { level = 1; held = u }) (remove_at i (slots_of c))) (owner_of c)
        → Shows d (slots_for (left ∷ sink U below)) (owner_of b)
    lower_opens y c d pushed put =
        let k : z - 1 ≡ 0 + length left = omega (arith, q.at.count, length-left) in
        (put.0, put.1 ∙ put_in_lem (z - 1) (slots_of c) ([] ∷ below) (deeper c pushed) (rw k (opened U left below q.at.in_order (met ∙ y))), λ o h. put.2 o h ∙ pushed.2 o h)
