-- Levels numbered anew, in the list and in the bytes, and when they have their numbers already. Assumes nothing.
use mathlib.Core.Path.{◌≡◌, refl, sym, ◌∙◌, ap}
use mathlib.Core.List.{List, [], ◌∷◌, ◌++◌, map}
use mathlib.Core.Option.{Option, none, some}
use mathlib.Core.Bool.{true≢false, Bool, true}
use Prim.Native.Nat.{ℕ, suc, ◌<◌}
use native.Mathlib.Omega.{arith}
use lib.ListN.{length, get_or, drop}
use borrow.Author.Tests.{eq-eqb, ne_eqb}
use Rattle.model.specs.Lists.{all}
use Rattle.model.specs.Record.{Record}
use Rattle.model.specs.Levels.{Level, Group, filled}
use Rattle.model.specs.Sound.{is_filled, sound_record}
use Rattle.model.specs.Totals.{total, owns}
use Rattle.model.proofs.Bools.{all_head, all_tail}
use Rattle.group.specs.declared.Slot.{Slot}
use Rattle.group.specs.Layout.{slots_of, owner_of}
use Rattle.group.specs.Cutting.{Placed, flat_from, flat}
use Rattle.group.specs.Held.{slot_for}
use Rattle.slots.specs.View.{Shows}
use Rattle.slots.specs.Edits.{renumbered, renumber_levels}
use Rattle.insertion.specs.Flat.{tag}
use Rattle.insertion.specs.Slots.{slot, records, keep_slot}
use Rattle.insertion.specs.InsertSlots.{given, give_up_slots, renumber, settle}
use Rattle.insertion.specs.Shown.{weight, Shown}
use Rattle.insertion.proofs.GiveUp.{gives-fewer}
use Rattle.insertion.proofs.Steps.{count-total}

-- slots renumbered are the slots of the list renumbered
settle-map : (o n : ℕ) (l : List Placed) → renumber_levels o n (map slot_for l) ≡ map slot_for (settle o n l)
unfolding renumber_levels settle renumbered renumber
settle-map o n [] = refl
settle-map o n (s ∷ l) = ap (λ (k : List Slot). slot_for (slot (renumber o n s.level) s.item) ∷ k) (settle-map s.level (renumber o n s.level) l)

-- a level's number is no part of its records
settle-records : (o n : ℕ) (l : List Placed) → records (settle o n l) ≡ records l
unfolding settle
settle-records o n [] = refl
settle-records o n (s ∷ l) = ap (λ (k : List Record). s.item ∷ k) (settle-records s.level (renumber o n s.level) l)

pub shown-renumbered : (b c : List ℕ) (l : List Placed) → Shown b l → Shows c (renumber_levels 0 0 (slots_of b)) (owner_of b) → Shown c (settle 0 0 l)
shown-renumbered b c l shown after =
    let same = settle-records 0 0 l in
    record {
      size = after.0;
      slots = after.1 ∙ ap (renumber_levels 0 0) shown.slots ∙ settle-map 0 0 l;
      owners = λ o k. after.2 o k ∙ shown.owners o k ∙ ap (total (weight o)) (sym same);
      room = omega (arith, count-total (settle 0 0 l), count-total l, ap (total (λ r. 1)) same, shown.room);
      sound = ap (all (sound_record 256 0)) same ∙ shown.sound;
      once = λ o. omega (arith, ap (total (owns o)) same, shown.once o);
    }

-- a level keeps its number, or gets the next
settle-tag : (o n : ℕ) (l : Level) (q : List Placed) → settle o n (tag o l ++ q) ≡ tag n l ++ settle o n q
unfolding settle renumber
settle-tag o n [] q = refl
settle-tag o n (r ∷ l) q = rw (eq-eqb o o refl, renumber) (ap (λ (m : List Placed). slot n r ∷ m) (settle-tag o n l q))

settle_from : (o n m : ℕ) (g : Group) → o < m → settle o n (flat_from m g) ≡ flat_from (suc n) (filled g)
unfolding settle flat_from filled renumber
settle_from o n m [] h = refl
settle_from o n m ([] ∷ g) h = settle_from o n (suc m) g (omega arith)
settle_from o n m ((r ∷ l) ∷ g) h =
    let next = ne_eqb m o (λ e. omega arith) in
    rw (next, renumber) (ap (λ (k : List Placed). slot (suc n) r ∷ k) (settle-tag m (suc n) l (flat_from (suc m) g) ∙ ap (λ (k : List Placed). tag (suc n) l ++ k) (settle_from m (suc n) (suc m) g (omega arith))))

-- level 0 of a group, and the others
abbrev pub top_of : Group → Level
top_of [] = []
top_of (l ∷ g) = l

abbrev pub rest_of : Group → Group
rest_of [] = []
rest_of (l ∷ g) = g

-- Level 0 stays, even empty; the others that hold a record follow it.
pub settle-parts : (g : Group) → settle 0 0 (flat g) ≡ flat (top_of g ∷ filled (rest_of g))
unfolding settle flat_from filled
settle-parts [] = refl
settle-parts (l ∷ g) = settle-tag 0 0 l (flat_from 1 g) ∙ ap (λ (k : List Placed). tag 0 l ++ k) (settle_from 0 0 1 g (omega arith))

-- A group without empty levels has its numbers.
filled_same : (g : Group) → all is_filled g ≡ true → filled g ≡ g
unfolding filled is_filled
filled_same [] h = refl
filled_same ([] ∷ g) h = absurd (true≢false (sym (all_head is_filled [] g h)))
filled_same ((r ∷ l) ∷ g) h = ap (λ (k : Group). (r ∷ l) ∷ k) (filled_same g (all_tail is_filled (r ∷ l) g h))

pub settled : (g : Group) → all is_filled g ≡ true → settle 0 0 (flat g) ≡ flat g
unfolding settle flat_from
settled [] f = refl
settled (l ∷ g) f = settle-parts (l ∷ g) ∙ ap (λ (k : Group). flat (l ∷ k)) (filled_same g (all_tail is_filled l g f))

-- Slots that give up offsets keep their numbers where none goes.
pub settled_given : (lost : ℕ → Bool) (o n : ℕ) (l : List Placed) → settle o n l ≡ l → length (give_up_slots lost l) ≡ length l → settle o n (give_up_slots lost l) ≡ give_up_slots lost l
unfolding settle give_up_slots keep_slot
settled_given lost o n [] e h = refl
settled_given lost o n (s ∷ l) e h = go (given lost s.item) h (λ k. settled_given lost s.level (renumber o n s.level) l (ap (λ (m : List Placed). drop 1 m) e) k)
  where
    go : (x : Option Record) → length (keep_slot s.level x (give_up_slots lost l)) ≡ suc (length l)
        → (length (give_up_slots lost l) ≡ length l → settle s.level (renumber o n s.level) (give_up_slots lost l) ≡ give_up_slots lost l)
        → settle o n (keep_slot s.level x (give_up_slots lost l)) ≡ keep_slot s.level x (give_up_slots lost l)
    go none k ih = absurd (let z : ⊥ = omega (arith, gives-fewer lost l) in z)
    go (some r) k ih = ap (λ (m : List Placed). slot (renumber o n s.level) r ∷ m) (ih (omega arith)) ∙ ap (λ (m : List Placed). slot (get_or m 0 s).level r ∷ give_up_slots lost l) e
