-- Every number below n passes a test: one that fails it, one more that passes it, and those behind the first x. Assumes nothing.
use mathlib.Core.Path.{◌≡◌, refl, sym, ap, ◌∙◌}
use mathlib.Core.Logic.{◌⊎◌, inl, inr}
use mathlib.Core.Bool.{true≢false, Bool, true, false, ◌&&◌}
use Prim.Native.Nat.{ℕ, zero, suc, ◌+◌, ◌≤◌, ◌<◌}
use native.Mathlib.Omega.{arith}
use Rattle.model.proofs.Lists.{le_cases}
use Rattle.model.proofs.Bools.{is_false, and_r}
use Rattle.calls.specs.Agreement.{each_below}

-- a number that fails the test
pub each_not : (n x : ℕ) (t : ℕ → Bool) → x < n → t x ≡ false → each_below n t ≡ false
unfolding each_below
each_not zero x t h e = absurd (omega arith)
each_not (suc n) x t h e = go (le_cases x n (omega arith)) (λ l. each_not n x t l e)
  where
    go : (n ≡ x) ⊎ (suc x ≤ n) → (x < n → each_below n t ≡ false) → (t n && each_below n t) ≡ false
    go (inl q) ih = rw (q, e)
    go (inr l) ih = rw (ih (omega arith)) (is_false (t n && false) (λ z. true≢false (sym (and_r (t n) false z))))

-- those below x + m are those below x, and the m others
pub each_join : (x m : ℕ) (t : ℕ → Bool) → each_below (x + m) t ≡ (each_below m (λ o. t (x + o)) && each_below x t)
unfolding each_below
each_join x zero t = let e : x + 0 ≡ x = omega arith in rw e refl
each_join x (suc m) t = let e : x + suc m ≡ suc (x + m) = omega arith in rw e (ap (λ (u : Bool). t (x + m) && u) (each_join x m t) ∙ and_assoc (t (x + m)) (each_below m (λ o. t (x + o))) (each_below x t))
  where
    and_assoc : (a b c : Bool) → (a && (b && c)) ≡ ((a && b) && c)
    and_assoc true b c = refl
    and_assoc false b c = refl
