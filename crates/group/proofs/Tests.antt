-- The tests of one slot and of one owner, a law for each way to answer: the definition with the tests before it
-- decided. Assumes nothing.
use mathlib.Core.Path.{◌≡◌, refl, sym, ◌∙◌}
use mathlib.Core.List.{List}
use mathlib.Core.Bool.{Bool, true, false, ◌&&◌, ◌||◌}
use Prim.Native.Nat.{ℕ, suc, ◌+◌, ◌*◌, ◌-◌, ◌/◌, ◌%◌, ◌≤◌, ◌<◌}
use native.Mathlib.Omega.{arith}
use native.Mathlib.Numerals.{add-one}
use native.Mathlib.Nat.{zero-mod}
use lib.Dec.{leb, eqb}
use lib.ListN.{get_or}
use lib.Bits.{bit_or, or_add_and, and_le_l, and_le_r}
use borrow.Author.Tests.{eqb-true, eqb-false, leb-true, lt-ltb, le-ltb, le-leb, lt-leb, eq-eqb, ne_eqb}
use Rattle.model.specs.Record.{kind_of}
use Rattle.model.proofs.Bools.{and_l, and_r, and_i, iff_bool}
use Rattle.record.specs.declared.Record.{Record}
use Rattle.record.proofs.Words.{kind-zero, kind_even, kind_odd, odd_test}
use Rattle.group.specs.declared.Slot.{Slot}
use Rattle.group.specs.Checking.{approx, end_of, shaped_as, shaped, in_place, InLast, free_from, slot_stands, owns_ends, unnamed, without, taken}

-- the record's four numbers
module _ (m : ℕ) (r : Record) where
  pub shaped-past : m ≤ r.start + r.span → false ≡ shaped m r
  unfolding shaped
  shaped-past h = rw (le-ltb (end_of r) m h)

  module _ (h : r.start + r.span < m) where
    inside : shaped m r ≡ shaped_as (kind_of r.word) r.span
    unfolding shaped
    inside = rw (lt-ltb (end_of r) m h)

    pub shaped-slope : r.word % 2 ≡ 1 → leb r.word 513 ≡ shaped m r
    unfolding shaped_as
    shaped-slope e =
        rw (inside, kind_odd r.word e)
        (iff_bool _ _ (λ q. le-leb (r.word / 2) 256 (omega (arith, leb-true r.word 513 q))) (λ q. le-leb r.word 513 (omega (arith, leb-true (r.word / 2) 256 q))))

    module _ (even : r.word % 2 ≡ 1 → ⊥) where
      pub shaped-wide : 510 < r.word → false ≡ shaped m r
      unfolding shaped_as
      shaped-wide d = rw (inside, kind_even r.word (λ z. omega arith) even, lt-leb (r.word / 2) 255 (omega arith))

      module _ (low : r.word ≤ 510) where
        strided : (r.word ≡ 0 → ⊥) → shaped m r ≡ eqb (r.span % (r.word / 2)) 0
        unfolding shaped_as
        strided z = rw (inside, kind_even r.word z even, le-leb (r.word / 2) 255 (omega arith))

        pub shaped-point : r.span ≡ 0 → true ≡ shaped m r
        unfolding shaped_as
        shaped-point e = go (eqb r.word 0) refl
          where
            go : (t : Bool) → eqb r.word 0 ≡ t → true ≡ shaped m r
            go true q = rw (inside, kind-zero r.word (eqb-true _ _ q), e)
            go false q = rw (strided (eqb-false _ _ q), e, zero-mod (r.word / 2))

        -- of a single and of stride 1 no remainder is asked for
        pub shaped-narrow : (r.span ≡ 0 → ⊥) → r.word ≤ 2 → eqb r.word 2 ≡ shaped m r
        unfolding shaped_as
        shaped-narrow e low = go (eqb r.word 0) refl
          where
            go : (t : Bool) → eqb r.word 0 ≡ t → eqb r.word 2 ≡ shaped m r
            go true q =
                let none : r.word ≡ 0 = eqb-true _ _ q in
                rw (inside, kind-zero r.word none, ne_eqb r.span 0 e, none)
            go false q =
                let z : r.word ≡ 0 → ⊥ = eqb-false _ _ q in
                let two : r.word ≡ 2 = omega arith in
                let whole : r.span % 1 ≡ 0 = omega arith in
                rw (strided z, two, whole)

        pub shaped-stride : 2 < r.word → eqb (r.span % (r.word / 2)) 0 ≡ shaped m r
        shaped-stride wide = sym (strided (λ z. omega arith))

-- the slot's place: 256 for each level and its start
module _ (m n p : ℕ) (s : Slot) (byte : s.held.start < 256) (last : InLast n p) where
  early : 256 * s.level + s.held.start < p → in_place n (free_from n p) s ≡ false
  unfolding in_place
  early h = rw (ne_eqb s.level n (λ q. omega arith)) (go (eqb (suc s.level) n) refl)
    where
      go : (t : Bool) → eqb (suc s.level) n ≡ t → (t && leb (free_from n p) s.held.start) ≡ false
      go true q = let e : suc s.level ≡ n = eqb-true _ _ q in lt-leb (free_from n p) s.held.start (omega arith)
      go false q = refl

  above : n < s.level → in_place n (free_from n p) s ≡ false
  unfolding in_place
  above h = rw (ne_eqb s.level n (λ q. omega arith), ne_eqb (suc s.level) n (λ q. omega arith))

  right : p ≤ 256 * s.level + s.held.start → s.level ≤ n → in_place n (free_from n p) s ≡ true
  unfolding in_place
  right h k = go (eqb s.level n) refl
    where
      go : (t : Bool) → eqb s.level n ≡ t → (t || (eqb (suc s.level) n && leb (free_from n p) s.held.start)) ≡ true
      go true q = refl
      go false q =
          let f : s.level ≡ n → ⊥ = eqb-false _ _ q in
          let e : suc s.level ≡ n = omega arith in
          and_i _ _ (eq-eqb _ _ e) (le-leb (free_from n p) s.held.start (omega arith))

  misplaced : in_place n (free_from n p) s ≡ false → false ≡ slot_stands m n (free_from n p) s
  misplaced e = rw e (go (shaped m s.held))
    where
      go : (t : Bool) → false ≡ (t && false)
      go true = refl
      go false = refl

  pub stands-early : 256 * s.level + s.held.start < p → false ≡ slot_stands m n (free_from n p) s
  stands-early h = misplaced (early h)

  pub stands-above : n < s.level → false ≡ slot_stands m n (free_from n p) s
  stands-above h = misplaced (above h)

  pub stands-shaped : p ≤ 256 * s.level + s.held.start → s.level ≤ n → (t : Bool) → t ≡ shaped m s.held → t ≡ slot_stands m n (free_from n p) s
  stands-shaped h k t e = rw (right h k) (go t e)
    where
      go : (t : Bool) → t ≡ shaped m s.held → t ≡ (shaped m s.held && true)
      go true e = rw (← e)
      go false e = rw (← e)

-- a record whose word is even, and one whose word is odd
module _ (r : Record) where
  even_not : r.word % 2 ≡ 0 → approx r ≡ false
  even_not e = sym (odd_test r.word) ∙ ne_eqb (r.word % 2) 1 (λ q. omega arith)

  odd_is : (r.word % 2 ≡ 0 → ⊥) → approx r ≡ true
  odd_is e = sym (odd_test r.word) ∙ eq-eqb (r.word % 2) 1 (omega arith)

  module _ (c : List ℕ) where
    pub ends_other : r.word % 2 ≡ 0 → (true ≡ owns_ends (approx r) c r) × (c ≡ taken (approx r) c r)
    unfolding owns_ends taken
    ends_other e = (rw (even_not e), rw (even_not e))

    module _ (odd : r.word % 2 ≡ 0 → ⊥) where
      pub ends_first : (get_or c r.start 0 ≡ r.start + 1 → ⊥) → false ≡ owns_ends (approx r) c r
      unfolding owns_ends
      ends_first f = rw (odd_is odd, ne_eqb (get_or c r.start 0) (suc r.start) (λ q. f (q ∙ sym (add-one r.start))))

      pub ends_last : get_or c r.start 0 ≡ r.start + 1 → (get_or c (r.start + r.span) 0 ≡ r.start + 1 → ⊥) → false ≡ owns_ends (approx r) c r
      unfolding owns_ends
      ends_last e f =
          rw (odd_is odd, eq-eqb (get_or c r.start 0) (suc r.start) (e ∙ add-one r.start), ne_eqb (get_or c (end_of r) 0) (suc r.start) (λ q. f (q ∙ sym (add-one r.start))))

      pub ends-both : get_or c r.start 0 ≡ r.start + 1 → get_or c (r.start + r.span) 0 ≡ r.start + 1 → true ≡ owns_ends (approx r) c r
      unfolding owns_ends
      ends-both e f =
          rw (odd_is odd, eq-eqb (get_or c r.start 0) (suc r.start) (e ∙ add-one r.start), eq-eqb (get_or c (end_of r) 0) (suc r.start) (f ∙ add-one r.start))

      pub ends-taken : without (r.start + 1) (suc (r.start + r.span - r.start)) r.start c ≡ taken (approx r) c r
      unfolding taken
      ends-taken = let e : r.start + r.span - r.start ≡ r.span = omega arith in rw (odd_is odd, e, add-one r.start)

-- an owner
pub unnamed_same : (name v : ℕ) → v ≡ name → 0 ≡ unnamed name v
unfolding unnamed
unnamed_same name v e = rw (eq-eqb v name e, unnamed)

pub unnamed_other : (name v : ℕ) → (v ≡ name → ⊥) → v ≡ unnamed name v
unfolding unnamed
unnamed_other name v f = rw (ne_eqb v name f, unnamed)

-- two owners together are 0 where both are
pub both_none : (a b : ℕ) → eqb (bit_or a b) 0 ≡ (eqb a 0 && eqb b 0)
both_none a b =
    iff_bool _ _ (λ h. let e : bit_or a b ≡ 0 = eqb-true _ _ h in and_i _ _ (eq-eqb a 0 (omega (arith, or_add_and a b, and_le_r a b))) (eq-eqb b 0 (omega (arith, or_add_and a b, and_le_l a b))))
    (λ h. let e : a ≡ 0 = eqb-true _ _ (and_l (eqb a 0) _ h) in let f : b ≡ 0 = eqb-true _ _ (and_r (eqb a 0) _ h) in eq-eqb (bit_or a b) 0 (rw (e, f)))
