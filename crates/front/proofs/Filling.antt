-- A list of a state, as its counts, whose elements become x one after the other: what the state is after k turns, and after all. Assumes
-- nothing.
use mathlib.Core.Path.{◌≡◌, refl, sym, ap, ◌∙◌}
use mathlib.Core.List.{List, [], ◌∷◌, ◌++◌}
use Prim.Native.Nat.{ℕ, zero, suc, ◌+◌, ◌<◌}
use native.Mathlib.Omega.{arith}
use native.Mathlib.Numerals.{add-one}
use lib.ListN.{length, set, drop, replicate}

-- a list of a state, and the state with another one for it
pub record Part (S A : Type 0) : Type 0 where
  pub of : S → List A
  pub put : List A → S → S
  pub same : (s : S) → put (of s) s ≡ s
  pub back : (l : List A) (s : S) → of (put l s) ≡ l
  pub again : (l m : List A) (s : S) → put l (put m s) ≡ put l s

module _ {A : Type 0} (x : A) where
  -- the first k became x
  unfoldable pub filled : ℕ → List A → List A
  filled k l = replicate k x ++ drop k l

  filled_next : (k : ℕ) (l : List A) → k < length l → set (filled k l) k x ≡ filled (suc k) l
  unfolding filled
  filled_next k [] h = absurd (omega arith)
  filled_next zero (y ∷ l) h = refl
  filled_next (suc k) (y ∷ l) h = ap (λ (m : List A). x ∷ m) (filled_next k l (omega arith))

  filled_all : (l : List A) → filled (length l) l ≡ replicate (length l) x
  unfolding filled
  filled_all [] = refl
  filled_all (y ∷ l) = ap (λ (m : List A). x ∷ m) (filled_all l)

module _ {S A : Type 0} (x : A) where
  -- k elements of the part of state s became x: it is t now
  abbrev pub Filled : Part S A → S → ℕ → S → Type 0
  Filled p s k t = t ≡ p.put (filled x k (p.of s)) s

  -- the part has n elements
  module _ (p : Part S A) (s : S) (n : ℕ) (size : length (p.of s) ≡ n) where
    pub fill_none : Filled p s 0 s
    unfolding filled
    fill_none = sym (p.same s)

    pub fill_next : (t u : S) (k : ℕ) → Filled p s k t → k < n → u ≡ p.put (set (p.of t) k x) t → Filled p s (k + 1) u
    fill_next t u k f h e =
        let turn : set (p.of t) k x ≡ filled x (k + 1) (p.of s) =
        ap (λ (v : S). set (p.of v) k x) f
        ∙ ap (λ (l : List A). set l k x) (p.back (filled x k (p.of s)) s)
        ∙ filled_next x k (p.of s) (omega (arith, size))
        ∙ ap (λ (j : ℕ). filled x j (p.of s)) (sym (add-one k)) in
        e ∙ ap (λ (l : List A). p.put l t) turn ∙ ap (p.put (filled x (k + 1) (p.of s))) f ∙ p.again (filled x (k + 1) (p.of s)) (filled x k (p.of s)) s

    pub fill_all : (t : S) (k : ℕ) → Filled p s k t → k ≡ n → t ≡ p.put (replicate n x) s
    fill_all t k f e =
        f
        ∙ ap (λ (j : ℕ). p.put (filled x j (p.of s)) s) (e ∙ sym size)
        ∙ ap (λ (l : List A). p.put l s) (filled_all x (p.of s))
        ∙ ap (λ (j : ℕ). p.put (replicate j x) s) size
