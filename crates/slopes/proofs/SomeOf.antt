-- Whether one of the first numbers passes a test. Assumes nothing.
use mathlib.Core.Path.{◌≡◌, refl, sym, ◌∙◌}
use mathlib.Core.Bool.{Bool, true, false, ◌||◌, true≢false}
use Prim.Native.Nat.{ℕ, zero, suc, ◌+◌, ◌<◌}
use native.Mathlib.Omega.{arith}
use native.Mathlib.Numerals.{add-one}
use lib.Dec.{eqb}
use borrow.Author.Tests.{eqb-true, eqb-false}
use Rattle.slopes.specs.Slopes.{some_of}

module _ (t : ℕ → Bool) where
  pub some_start : false ≡ some_of t 0
  unfolding some_of
  some_start = refl

  pub some_turn : (n : ℕ) (b c : Bool) → b ≡ some_of t n → c ≡ t n → (b || c) ≡ some_of t (n + 1)
  unfolding some_of
  some_turn n b c e f = rw (add-one n, e, f)

  -- none does
  pub some_none : (n : ℕ) → some_of t n ≡ false → (k : ℕ) → k < n → t k ≡ false
  unfolding some_of
  some_none zero h k b = absurd (omega arith)
  some_none (suc n) h k b = go (some_of t n) refl (t n) refl (eqb k n) refl (λ e. some_none n e k)
    where
      go : (u : Bool) → some_of t n ≡ u → (v : Bool) → t n ≡ v → (s : Bool) → eqb k n ≡ s → (some_of t n ≡ false → k < n → t k ≡ false) → t k ≡ false
      go true e v f s q ih = absurd (true≢false (rw e at h))
      go false e true f s q ih = absurd (true≢false (rw (e, f) at h))
      go false e false f true q ih = let same : k ≡ n = eqb-true k n q in rw same f
      go false e false f false q ih = let other : k ≡ n → ⊥ = eqb-false k n q in ih e (omega arith)

  pub some_here : (n k : ℕ) → k < n → t k ≡ true → some_of t n ≡ true
  some_here n k b h = go (some_of t n) refl
    where
      go : (u : Bool) → some_of t n ≡ u → some_of t n ≡ true
      go true e = e
      go false e = absurd (true≢false (sym h ∙ some_none n e k b))

  -- one does
  pub some_one : (n : ℕ) → some_of t n ≡ true → (k : ℕ) × (k < n) × (t k ≡ true)
  unfolding some_of
  some_one zero h = absurd (true≢false (sym h))
  some_one (suc n) h = go (some_of t n) refl (λ e. some_one n e)
    where
      go : (b : Bool) → some_of t n ≡ b → (some_of t n ≡ true → (k : ℕ) × (k < n) × (t k ≡ true)) → (k : ℕ) × (k < suc n) × (t k ≡ true)
      go true e ih = let r = ih e in (r.0, omega (arith, r.1), r.2)
      go false e ih = (n, omega arith, rw e at h)

-- two tests that pass the same
pub some_same : (t u : ℕ → Bool) (n : ℕ) → ((k : ℕ) → k < n → t k ≡ u k) → some_of t n ≡ some_of u n
unfolding some_of
some_same t u zero h = refl
some_same t u (suc n) h =
    let e : t n ≡ u n = h n (omega arith) in
    rw (some_same t u n (λ k b. h k (omega arith)), e)
