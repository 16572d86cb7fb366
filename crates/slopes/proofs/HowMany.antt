-- One of two numbers by a test, and how many numbers pass one. Assumes nothing.
use mathlib.Core.Path.{◌≡◌, refl, sym, ap, ◌∙◌}
use mathlib.Core.Bool.{Bool, true, false, ◌&&◌}
use Prim.Native.Nat.{ℕ, zero, suc, ◌+◌, ◌-◌, ◌≤◌, ◌<◌}
use native.Mathlib.Omega.{arith}
use lib.Dec.{ltb}
use borrow.Author.Tests.{lt-ltb, le-ltb, ltb-true, ltb-false}
use Rattle.slopes.specs.Counting.{pick_of, how_many}

pub picks_first : (t : Bool) (n m : ℕ) → t ≡ true → n ≡ pick_of t n m
unfolding pick_of
picks_first t n m e = rw e

pub picks_second : (t : Bool) (n m : ℕ) → t ≡ false → m ≡ pick_of t n m
unfolding pick_of
picks_second t n m e = rw e

one_small : (t : Bool) (n : ℕ) → n ≡ pick_of t 1 0 → n ≤ 1
unfolding pick_of
one_small true n e = omega arith
one_small false n e = omega arith

pub how_many_most : (t : ℕ → Bool) (n : ℕ) → how_many t n ≤ n
unfolding how_many
how_many_most t zero = omega arith
how_many_most t (suc n) = omega (arith, how_many_most t n, one_small (t n) _ refl)

pub how_many_same : (t u : ℕ → Bool) (n : ℕ) → ((j : ℕ) → j < n → t j ≡ u j) → how_many t n ≡ how_many u n
unfolding how_many
how_many_same t u zero h = refl
how_many_same t u (suc n) h = rw (how_many_same t u n (λ j k. h j (omega arith)), h n (omega arith))

pub how_many_none : (t : ℕ → Bool) (n : ℕ) → ((j : ℕ) → j < n → t j ≡ false) → how_many t n ≡ 0
unfolding how_many pick_of
how_many_none t zero h = refl
how_many_none t (suc n) h = rw (how_many_none t n (λ j k. h j (omega arith)), h n (omega arith))

pub how_many_add : (t : ℕ → Bool) (m n : ℕ) → how_many t (m + n) ≡ how_many t m + how_many (λ j. t (m + j)) n
unfolding how_many
how_many_add t m zero = let e : m + 0 ≡ m = omega arith in rw e (omega arith)
how_many_add t m (suc n) = let e : m + suc n ≡ suc (m + n) = omega arith in rw e (omega (arith, how_many_add t m n))

pub how_many_first : (t : ℕ → Bool) (n : ℕ) → how_many t (suc n) ≡ pick_of (t 0) 1 0 + how_many (λ j. t (suc j)) n
unfolding how_many
how_many_first t zero = omega arith
how_many_first t (suc n) = omega (arith, how_many_first t n)

-- the test, for the first n numbers only
abbrev pub within : ℕ → (ℕ → Bool) → ℕ → Bool
within n t j = ltb j n && t j

module _ (n : ℕ) (t : ℕ → Bool) where
  few : (m : ℕ) → m ≤ n → how_many (within n t) m ≡ how_many t m
  few m h = how_many_same (within n t) t m (λ j k. let q : j < n = omega arith in rw (lt-ltb j n q))

  pub within_all : (m : ℕ) → n ≤ m → how_many (within n t) m ≡ how_many t n
  within_all m h =
      let e : n + (m - n) ≡ m = omega arith in
      let z : how_many (λ j. within n t (n + j)) (m - n) ≡ 0 =
      how_many_none _ (m - n) (λ j k. let q : n ≤ n + j = omega arith in rw (le-ltb (n + j) n q)) in
      let s : how_many (within n t) m ≡ how_many (within n t) n + how_many (λ j. within n t (n + j)) (m - n) =
      ap (how_many (within n t)) (sym e) ∙ how_many_add (within n t) n (m - n) in
      omega (arith, s, z, few n (omega arith))

  pub within_most : (m : ℕ) → how_many (within n t) m ≤ n
  within_most m = go (ltb m n) refl
    where
      go : (b : Bool) → ltb m n ≡ b → how_many (within n t) m ≤ n
      go true e = omega (arith, ltb-true m n e, how_many_most (within n t) m)
      go false e = omega (arith, within_all m (ltb-false m n e), how_many_most t n)
