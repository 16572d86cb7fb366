-- The passes turn by turn: the test at hand, and the pass over what comes behind. Assumes nothing.
use mathlib.Core.Path.{◌≡◌, refl, ◌∙◌}
use mathlib.Core.List.{List, [], ◌∷◌}
use mathlib.Core.Bool.{Bool, true, false, ◌&&◌}
use Prim.Native.Nat.{ℕ, zero, suc, ◌+◌, ◌-◌, ◌*◌, ◌%◌, ◌≤◌, ◌<◌}
use native.Mathlib.Omega.{arith}
use native.Mathlib.Numerals.{add-one}
use lib.Bits.{bit_or}
use lib.Dec.{eqb}
use lib.ListN.{get_or, set, replicate}
use borrow.Author.Tests.{eq-eqb, ne_eqb}
use Rattle.model.specs.Lists.{all}
use Rattle.model.proofs.Bools.{and_l}
use Rattle.record.specs.declared.Record.{Record}
use Rattle.record.proofs.Words.{odd_test}
use Rattle.group.specs.declared.Slot.{Slot}
use Rattle.group.specs.Layout.{slot_of, slots_from}
use Rattle.group.specs.Reading.{every_from}
use Rattle.group.specs.Checking.{approx, end_of, shaped, in_place, in_places, InLast, free_from, owns_ends, unnamed, without, taken, own_ends, left_by, slot_stands, slot_passes, slots_pass, no_owners}
use Rattle.group.proofs.Slots.{slots-step, slots_end}
use Rattle.group.proofs.Shapes.{shaped-below}
use Rattle.group.proofs.Tests.{both_none}

-- the pass over the slots is the first slot's tests and the pass over the others
slots-turn : (m n from : ℕ) (c : List ℕ) (s : Slot) (l : List Slot)
    → slots_pass m n from c (s ∷ l) ≡ (slot_passes m n from c s && slots_pass m (suc s.level) (suc (end_of s.held)) (taken (approx s.held) c s.held) l)
unfolding all in_places own_ends
slots-turn m n from c s l = mix (shaped m s.held) (in_place n from s) (owns_ends (approx s.held) c s.held) _ _ _
  where
    mix : (a b c x y z : Bool) → (((a && x) && (b && y)) && (c && z)) ≡ (((a && b) && c) && ((x && y) && z))
    mix false b c x y z = refl
    mix true false c true y z = refl
    mix true false c false y z = refl
    mix true true false true true z = refl
    mix true true false true false z = refl
    mix true true false false y z = refl
    mix true true true x y z = refl

-- before the first level any offset is free
pub slots_first : (m from : ℕ) (c : List ℕ) (l : List Slot) → slots_pass m 0 0 c l ≡ slots_pass m 0 from c l
unfolding in_places in_place
slots_first m from c [] = refl
slots_first m from c (s ∷ l) = rw (ne_eqb (suc s.level) 0 (λ e. omega arith))

-- a slot that stands has its range in a group of m offsets
pub stood : (m n from : ℕ) (s : Slot) → slot_stands m n from s ≡ true → end_of s.held < m
stood m n from s h = shaped-below m s.held (and_l (shaped m s.held) _ h)

-- the place behind a slot's record is one of its level
pub behind_last : (s : Slot) → end_of s.held ≤ 255 → InLast (s.level + 1) (256 * s.level + s.held.start + s.held.span + 1)
behind_last s h = (omega arith, omega arith)

module _ (b : List ℕ) (m u n p i : ℕ) (c : List ℕ) where
  module _ (h : i < u) (s : Slot) (is : s ≡ slot_of b i) (t : Bool) (fit : t ≡ slot_stands m n (free_from n p) s) where
    at : slots_pass m n (free_from n p) c (slots_from b i (u - i))
        ≡ ((t && owns_ends (approx s.held) c s.held) && slots_pass m (suc s.level) (suc (end_of s.held)) (taken (approx s.held) c s.held) (slots_from b (i + 1) (u - (i + 1))))
    at = rw (slots-step b u i h, ← is, fit) (slots-turn m n (free_from n p) c s (slots_from b (i + 1) (u - (i + 1))))

    pub slot_unfit : t ≡ false → slots_pass m n (free_from n p) c (slots_from b i (u - i)) ≡ false
    slot_unfit e = rw e at at

    module _ (v : Bool) (owns : v ≡ owns_ends (approx s.held) c s.held) where
      pub slot_fails : v ≡ false → slots_pass m n (free_from n p) c (slots_from b i (u - i)) ≡ false
      slot_fails f = (rw (← owns, f) at at) ∙ none t _
        where
          none : (a x : Bool) → ((a && false) && x) ≡ false
          none true x = refl
          none false x = refl

      pub slot-holds : t ≡ true → v ≡ true → (d : List ℕ) → d ≡ taken (approx s.held) c s.held
          → slots_pass m n (free_from n p) c (slots_from b i (u - i))
          ≡ slots_pass m (s.level + 1) (free_from (s.level + 1) (256 * s.level + s.held.start + s.held.span + 1)) d (slots_from b (i + 1) (u - (i + 1)))
      slot-holds e f d q =
          let x : free_from (s.level + 1) (256 * s.level + s.held.start + s.held.span + 1) ≡ suc (end_of s.held) = omega arith in
          rw (x, add-one s.level, q) (rw (e, ← owns, f) at at)

    pub slot-left : (d : List ℕ) → d ≡ taken (approx s.held) c s.held → left_by c (slots_from b i (u - i)) ≡ left_by d (slots_from b (i + 1) (u - (i + 1)))
    unfolding left_by
    slot-left d q = rw (slots-step b u i h, ← is, q)

  pub slots-done : u ≤ i → (slots_pass m n (free_from n p) c (slots_from b i (u - i)) ≡ true) × (left_by c (slots_from b i (u - i)) ≡ c)
  unfolding all in_places own_ends left_by
  slots-done h = let e : slots_from b i (u - i) ≡ [] = slots_end b u i h in (rw e, rw e)

-- one name taken from the owners up to offset `last`: at offset o, and from the next on
module _ (name last o : ℕ) (c : List ℕ) where
  pub name_turn : o ≤ last → (v : ℕ) → v ≡ unnamed name (get_or c o 0) → without name (last + 1 - o) o c ≡ without name (last + 1 - (o + 1)) (o + 1) (set c o v)
  unfolding without
  name_turn h v q = let e : last + 1 - o ≡ suc (last + 1 - (o + 1)) = omega arith in rw (e, add-one o, q)

  pub name_done : last < o → without name (last + 1 - o) o c ≡ c
  unfolding without
  name_done h = let e : last + 1 - o ≡ 0 = omega arith in rw e

-- where nothing is owned, an approximate record fails and any other takes nothing
no_owner : (n x : ℕ) → ◌≡◌ {A = ℕ} (get_or (replicate n 0) x 0) 0
no_owner zero x = refl
no_owner (suc n) zero = refl
no_owner (suc n) (suc x) = no_owner n x

pub none_owns : (o : ℕ) → get_or no_owners o 0 ≡ 0
none_owns o = no_owner 256 o

module _ (r : Record) where
  pub plain-approx : r.word % 2 ≡ 1 → false ≡ owns_ends (approx r) no_owners r
  unfolding owns_ends
  plain-approx e = rw (← odd_test r.word, eq-eqb (r.word % 2) 1 e, none_owns r.start, ne_eqb 0 (suc r.start) (λ q. omega arith))

  pub plain_other : (r.word % 2 ≡ 1 → ⊥) → (true ≡ owns_ends (approx r) no_owners r) × (no_owners ≡ taken (approx r) no_owners r)
  unfolding owns_ends taken
  plain_other f = (rw (← odd_test r.word, ne_eqb (r.word % 2) 1 f), rw (← odd_test r.word, ne_eqb (r.word % 2) 1 f))

-- a test on all numbers below n, from x on
module _ (t : ℕ → Bool) where
  every-turn : (n x : ℕ) → x < n → every_from t (n - x) x ≡ (t x && every_from t (n - (x + 1)) (x + 1))
  unfolding every_from
  every-turn n x h = let e : n - x ≡ suc (n - (x + 1)) = omega arith in rw (e, add-one x)

  pub every-done : (n x : ℕ) → n ≤ x → every_from t (n - x) x ≡ true
  unfolding every_from
  every-done n x h = let e : n - x ≡ 0 = omega arith in rw e

-- a test of all numbers below n by values that are 0 where it holds: those before x taken together, and those from there on
module _ (t : ℕ → Bool) (n any x : ℕ) where
  pub any_turn : x < n → (v : ℕ) → eqb v 0 ≡ t x → (eqb any 0 && every_from t (n - x) x) ≡ (eqb (bit_or any v) 0 && every_from t (n - (x + 1)) (x + 1))
  any_turn h v e = rw (every-turn t n x h, both_none any v, e) (assoc (eqb any 0) (t x) (every_from t (n - (x + 1)) (x + 1)))
    where
      assoc : (a b c : Bool) → (a && (b && c)) ≡ ((a && b) && c)
      assoc true b c = refl
      assoc false b c = refl

  pub any_done : n ≤ x → (eqb any 0 && every_from t (n - x) x) ≡ eqb any 0
  any_done h = rw (every-done t n x h) (alone (eqb any 0))
    where
      alone : (a : Bool) → (a && true) ≡ a
      alone true = refl
      alone false = refl
