-- The greatest of some counts and the first that is so great, count by count. Assumes nothing.
use mathlib.Core.Path.{◌≡◌, refl, ap, ◌∙◌}
use mathlib.Core.Bool.{Bool, true, false, ◌&&◌}
use mathlib.Core.List.{List}
use Prim.Native.Nat.{ℕ, zero, suc, ◌+◌, ◌*◌, ◌≤◌, ◌<◌, min, max}
use native.Mathlib.Omega.{arith}
use lib.Dec.{ltb}
use lib.ListN.{length, get_or, replicate, length-replicate, get_or-replicate}
use borrow.Author.Tests.{ltb-true, ltb-false}
use Rattle.slopes.specs.Counting.{pick_of, Stored, most_of, choice_of, counts_of, raised_most, raised_choice}

pick-max : (n m : ℕ) → pick_of (ltb m n) n m ≡ max m n
unfolding pick_of
pick-max n m = go (ltb m n) refl
  where
    go : (b : Bool) → ltb m n ≡ b → pick_of (ltb m n) n m ≡ max m n
    go true e = rw e (omega (arith, ltb-true m n e))
    go false e = rw e (omega (arith, ltb-false m n e))

-- count c is looked at, where it is one of the first `width`
chosen_next : (t : ℕ → ℕ) (width c n m h m' h' : ℕ) → n ≡ t c → m ≡ most_of t (min c width) → h ≡ choice_of t (min c width)
    → m' ≡ pick_of (ltb c width && ltb m n) n m → h' ≡ pick_of (ltb c width && ltb m n) c h
    → (m' ≡ most_of t (min (c + 1) width)) × (h' ≡ choice_of t (min (c + 1) width))
unfolding most_of choice_of pick_of
chosen_next t width c n m h m' h' s e f p q = go (ltb c width) refl
  where
    go : (b : Bool) → ltb c width ≡ b → (m' ≡ most_of t (min (c + 1) width)) × (h' ≡ choice_of t (min (c + 1) width))
    go true z =
        let l : c < width = ltb-true c width z in
        let x : min c width ≡ c = omega arith in
        let y : min (c + 1) width ≡ suc c = omega arith in
        let e' : m ≡ most_of t c = rw x at e in
        let f' : h ≡ choice_of t c = rw x at f in
        rw (y, ← e', ← f', ← s) (rw z at p ∙ pick-max n m, rw z at q)
    go false z =
        let l : width ≤ c = ltb-false c width z in
        let x : min c width ≡ width = omega arith in
        let y : min (c + 1) width ≡ width = omega arith in
        rw (y, ← x) (rw z at p ∙ e, rw z at q ∙ f)

-- of each of 32 slopes the first c counts were looked at, as far as they are among its width
module _ (tally widths : List ℕ) where
  pub record Choosing (most choice : List ℕ) (c : ℕ) : Type 0 where
    pub long : (length most ≡ 32) × (length choice ≡ 32)
    pub greatest : (k : ℕ) → k < 32 → get_or most k 0 ≡ most_of (counts_of tally k) (min c (get_or widths k 0))
    pub first : (k : ℕ) → k < 32 → get_or choice k 0 ≡ choice_of (counts_of tally k) (min c (get_or widths k 0))

  pub choosing_start : (most choice : List ℕ) → most ≡ replicate 32 0 → choice ≡ replicate 32 0 → Choosing most choice 0
  unfolding most_of choice_of
  choosing_start most choice e f = record {
    long = (ap length e ∙ length-replicate {A = ℕ} 32 0, ap length f ∙ length-replicate {A = ℕ} 32 0);
    greatest = λ k h. let z : min 0 (get_or widths k 0) ≡ 0 = omega arith in rw (e, z, get_or-replicate {A = ℕ} 32 k 0 0 h);
    first = λ k h. let z : min 0 (get_or widths k 0) ≡ 0 = omega arith in rw (f, z, get_or-replicate {A = ℕ} 32 k 0 0 h);
  }

  pub choosing_turn : (most choice most' choice' : List ℕ) (c to : ℕ) → to ≡ 32 * c
      → Stored 0 (raised_most to c tally widths most) most most' → Stored 0 (raised_choice to c tally widths most choice) choice choice'
      → Choosing most choice c → Choosing most' choice' (c + 1)
  choosing_turn most choice most' choice' c to e m h t = record {
    long = (m.long ∙ t.long.0, h.long ∙ t.long.1);
    greatest = λ k q. (next k q).0;
    first = λ k q. (next k q).1;
  }
    where
      next : (k : ℕ) → k < 32 → (get_or most' k 0 ≡ most_of (counts_of tally k) (min (c + 1) (get_or widths k 0)))
          × (get_or choice' k 0 ≡ choice_of (counts_of tally k) (min (c + 1) (get_or widths k 0)))
      next k q =
          let z : 0 + k ≡ k = omega arith in
          chosen_next (counts_of tally k) (get_or widths k 0) c (get_or tally (to + k) 0) _ _ _ _ (rw e) (t.greatest k q) (t.first k q)
          (rw z at (m.here k q)) (rw z at (h.here k q))

pub most_few : (t : ℕ → ℕ) (n m : ℕ) → ((c : ℕ) → c < m → t c ≤ n) → most_of t m ≤ n
unfolding most_of
most_few t n zero h = omega arith
most_few t n (suc m) h = omega (arith, most_few t n m (λ c q. h c (omega arith)), h m (omega arith))

pub choice-few : (t : ℕ → ℕ) (m : ℕ) → choice_of t m ≤ m
unfolding choice_of pick_of
choice-few t zero = omega arith
choice-few t (suc m) = go (ltb (most_of t m) (t m)) (choice-few t m)
  where
    go : (b : Bool) → choice_of t m ≤ m → pick_of b m (choice_of t m) ≤ suc m
    go true h = omega arith
    go false h = omega arith
