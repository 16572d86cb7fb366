-- A pass over a list that changes its elements one by one, from one place on: what is left to change makes the whole change. So over the
-- used slots, whose owners stay. Assumes nothing.
use mathlib.Core.Path.{◌≡◌, refl, sym, ap, ◌∙◌}
use mathlib.Core.List.{List, [], ◌∷◌}
use mathlib.Core.Bool.{true}
use Prim.Native.Nat.{ℕ, zero, suc, ◌+◌, ◌≤◌, ◌<◌}
use native.Mathlib.Omega.{arith}
use native.Mathlib.Numerals.{add-one}
use lib.ListN.{length, get_or, set, length-set}
use lib.Seq.{get_or-set_other}
use borrow.Author.Tests.{ltb-true}
use Rattle.model.specs.Lists.{all}
use Rattle.model.proofs.Bools.{all_head, all_tail}
use Rattle.group.specs.declared.Slot.{Slot}
use Rattle.group.specs.Layout.{offsets, slots_of, owner_of}
use Rattle.group.specs.Answers.{no_slot}
use Rattle.slots.specs.View.{Room, Shows}
use Rattle.slots.specs.Edits.{replace_at, at_level, push_down_from, can_go_down, renumbered, renumber_levels}

-- the first i elements, and behind them what f makes of the others
unfoldable pub behind_first : {A : Type 0} → ℕ → (List A → List A) → List A → List A
behind_first zero f l = f l
behind_first (suc i) f [] = []
behind_first (suc i) f (x ∷ l) = x ∷ behind_first i f l

module _ {A : Type 0} (d : A) (f : List A → List A) where
  -- nothing stands there
  pub behind-end : (i : ℕ) (l : List A) → f [] ≡ [] → length l ≤ i → behind_first i f l ≡ l
  unfolding behind_first
  behind-end zero [] e h = e
  behind-end zero (x ∷ l) e h = absurd (let z : ⊥ = omega arith in z)
  behind-end (suc i) [] e h = refl
  behind-end (suc i) (x ∷ l) e h = ap (λ (m : List A). x ∷ m) (behind-end i l e (omega arith))

  -- the element there becomes y, and then g changes those behind it
  behind-turn : (g : List A → List A) (y : A) (i : ℕ) (l : List A) → i < length l → ((m : List A) → f (get_or l i d ∷ m) ≡ y ∷ g m)
      → behind_first (suc i) g (set l i y) ≡ behind_first i f l
  unfolding behind_first
  behind-turn g y i [] h e = absurd (let z : ⊥ = omega arith in z)
  behind-turn g y zero (x ∷ l) h e = sym (e l)
  behind-turn g y (suc i) (x ∷ l) h e = ap (λ (m : List A). x ∷ m) (behind-turn g y i l (omega arith) e)

-- slots are pushed down from one place on
pub push-behind : (i : ℕ) (l : List Slot) → behind_first i (push_down_from 0) l ≡ push_down_from i l
unfolding behind_first push_down_from
push-behind zero l = refl
push-behind (suc i) [] = refl
push-behind (suc i) (x ∷ l) = ap (λ (m : List Slot). x ∷ m) (push-behind i l)

-- from s to t, where f of the slots from j on of n still is to make the slots l
pub record Changing (f : List Slot → List Slot) (l : List Slot) (s t : List ℕ) (n j : ℕ) : Type 0 where
  pub room : Room t
  pub count : length (slots_of t) ≡ n
  pub rest : behind_first j f (slots_of t) ≡ l
  pub owners : (o : ℕ) → o < offsets → owner_of t o ≡ owner_of s o

module _ (f : List Slot → List Slot) where
  pub change_start : (l : List Slot) (s : List ℕ) (n j : ℕ) → Room s → n ≡ length (slots_of s) → behind_first j f (slots_of s) ≡ l → Changing f l s s n j
  change_start l s n j room e d = record { room = room; count = sym e; rest = d; owners = λ o h. refl }

  module _ (l : List Slot) (s t : List ℕ) (n j : ℕ) (so : Changing f l s t n j) where
    -- slot j becomes y, and g is left for those behind it
    pub change_turn : (g : List Slot → List Slot) (y : Slot) (u : List ℕ) → j < n → Shows u (replace_at j y (slots_of t)) (owner_of t)
        → ((m : List Slot) → f (get_or (slots_of t) j no_slot ∷ m) ≡ y ∷ g m) → Changing g l s u n (j + 1)
    change_turn g y u h after e =
        let count = so.count in
        let long : length (slots_of u) ≡ n = rw after.1 (length-set (slots_of t) j y ∙ count) in
        let turned : behind_first (suc j) g (replace_at j y (slots_of t)) ≡ l = behind-turn no_slot f g y j (slots_of t) (omega arith) e ∙ so.rest in
        record {
          room = (after.0, omega (arith, so.room.1));
          count = long;
          rest = rw (add-one j, after.1) turned;
          owners = λ o k. after.2 o k ∙ so.owners o k;
        }

    pub change_end : f [] ≡ [] → n ≤ j → Shows t l (owner_of s)
    change_end e h = let count = so.count in (so.room.0, sym (behind-end no_slot f j (slots_of t) e (omega arith)) ∙ so.rest, so.owners)

-- the slots from j on of n can go down
abbrev pub Lowerable : List ℕ → ℕ → ℕ → Type 0
Lowerable t n j = (k : ℕ) → j ≤ k → k < n → (get_or (slots_of t) k no_slot).level < 65535

down_each : (l : List Slot) → all can_go_down l ≡ true → (k : ℕ) → k < length l → (get_or l k no_slot).level < 65535
unfolding can_go_down
down_each [] a k h = absurd (omega arith)
down_each (x ∷ l) a zero h = ltb-true _ _ (all_head can_go_down x l a)
down_each (x ∷ l) a (suc k) h = down_each l (all_tail can_go_down x l a) k (omega arith)

pub down_start : (t : List ℕ) (n j : ℕ) → n ≡ length (slots_of t) → all can_go_down (slots_of t) ≡ true → Lowerable t n j
down_start t n j e a k h l = down_each (slots_of t) a k (omega arith)

pub down_turn : (t u : List ℕ) (n j : ℕ) (y : Slot) → slots_of u ≡ replace_at j y (slots_of t) → Lowerable t n j → Lowerable u n (j + 1)
down_turn t u n j y e c k h l =
    let kept : get_or (slots_of u) k no_slot ≡ get_or (slots_of t) k no_slot = rw e (get_or-set_other (slots_of t) j k y no_slot (λ i. omega arith)) in
    rw kept (c k (omega arith) l)

-- one slot pushed down, and one numbered anew
pub push_one : (x : Slot) (n : ℕ) → n ≡ x.level → (m : List Slot) → push_down_from 0 (x ∷ m) ≡ at_level (n + 1) x ∷ push_down_from 0 m
unfolding push_down_from
push_one x n e m = rw (add-one n, e)

pub renumber_one : (old new : ℕ) (x : Slot) (l n : ℕ) → l ≡ x.level → n ≡ renumbered old new l → (m : List Slot) → renumber_levels old new (x ∷ m) ≡ at_level n x ∷ renumber_levels l n m
unfolding renumber_levels
renumber_one old new x l n e f m = rw (f, e)
