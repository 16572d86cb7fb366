-- The better of two fits is as good as each, and the best of a slope's intercepts as good as each of them: as long, of those as long
-- none with fewer wrong predictions, of those alike none with a smaller slope, then intercept. Assumes nothing.
use mathlib.Core.Path.{◌≡◌, refl}
use mathlib.Core.List.{List}
use mathlib.Core.Logic.{◌⊎◌, inl, inr}
use mathlib.Core.Bool.{Bool, true, false}
use Prim.Native.Nat.{ℕ, zero, suc, ◌+◌, ◌≤◌, ◌<◌}
use native.Mathlib.Omega.{arith}
use native.Mathlib.Nat.{le_refl}
use lib.Dec.{ltb, eqb}
use borrow.Author.Tests.{ltb-true, ltb-false, eqb-true, eqb-false}
use Rattle.model.specs.Learning.{Fit, fit_of, beats, better, best_of}
use Rattle.model.proofs.Lists.{le_cases}

-- which of two fits is the better, and why
pub data Bettered (f f' : Fit) : Fit → Type 0 where
  kept : f'.size ≤ f.size → (f'.size ≡ f.size → f.wrong ≤ f'.wrong) → Bettered f f' f
  replaced : f.size ≤ f'.size → (f'.size ≡ f.size → f'.wrong < f.wrong) → Bettered f f' f'

pub bettered : (f f' : Fit) → Bettered f f' (better f f')
unfolding better beats
bettered f f' = go (ltb f.size f'.size) (eqb f'.size f.size) (ltb f'.wrong f.wrong) refl refl refl
  where
    go : (s t u : Bool) → ltb f.size f'.size ≡ s → eqb f'.size f.size ≡ t → ltb f'.wrong f.wrong ≡ u
        → Bettered f f' (better f f')
    go true t u d e w =
        let h : f.size < f'.size = ltb-true f.size f'.size d in
        rw (d, better, beats) (replaced (omega arith) (λ q. absurd (omega arith)))
    go false true true d e w =
        let h : f'.size ≡ f.size = eqb-true f'.size f.size e in
        rw (d, e, w, better, beats) (replaced (omega arith) (λ q. ltb-true f'.wrong f.wrong w))
    go false true false d e w =
        rw (d, e, w, better, beats) (kept (ltb-false f.size f'.size d) (λ q. ltb-false f'.wrong f.wrong w))
    go false false u d e w =
        rw (d, e, better, beats) (kept (ltb-false f.size f'.size d) (λ q. absurd (eqb-false f'.size f.size e q)))

-- of two fits as long the first is to be preferred: it has fewer wrong predictions, or as many and a smaller slope, or that too and no
-- greater intercept
pub data Before (f h : Fit) : Type 0 where
  fewer : f.wrong < h.wrong → Before f h
  flatter : f.wrong ≡ h.wrong → f.slope < h.slope → Before f h
  lower : f.wrong ≡ h.wrong → f.slope ≡ h.slope → f.intercept ≤ h.intercept → Before f h

-- f is as long as h or longer, and as good where it is as long
abbrev pub AsGood : Fit → Fit → Type 0
AsGood f h = (h.size ≤ f.size) × (h.size ≡ f.size → Before f h)

-- f has a smaller slope, or the same and no greater intercept
abbrev pub Earlier : Fit → Fit → Type 0
Earlier f h = (f.slope < h.slope) ⊎ ((f.slope ≡ h.slope) × (f.intercept ≤ h.intercept))

pub no_fewer : {f h : Fit} → Before f h → f.wrong ≤ h.wrong
no_fewer (fewer k) = omega arith
no_fewer (flatter k m) = omega arith
no_fewer (lower k m n) = omega arith

before : {f h : Fit} → f.wrong ≤ h.wrong → Earlier f h → Before f h
before {f} {h} k e = go (le_cases f.wrong h.wrong k) e
  where
    go : (h.wrong ≡ f.wrong) ⊎ (suc f.wrong ≤ h.wrong) → Earlier f h → Before f h
    go (inr m) e = fewer m
    go (inl m) (inl q) = flatter (omega arith) q
    go (inl m) (inr q) = lower (omega arith) q.0 q.1

itself : (f : Fit) → AsGood f f
itself f = (le_refl _, λ e. lower refl refl (le_refl _))

-- The better of two is as good as what the first is as good as, ..
pub as_first : (f f' h : Fit) → AsGood f h → AsGood (better f f') h
as_first f f' h g = go (bettered f f')
  where
    go : {r : Fit} → Bettered f f' r → AsGood r h
    go (kept s w) = g
    go (replaced s w) = (omega (arith, g.0), λ e. fewer (omega (arith, no_fewer (g.1 (omega (arith, g.0))), w (omega (arith, g.0)))))

-- .. and as what the second is as good as, where that doesn't come earlier than the first.
pub as_second : (f f' h : Fit) → AsGood f' h → Earlier f h → AsGood (better f f') h
as_second f f' h g k = go (bettered f f')
  where
    go : {r : Fit} → Bettered f f' r → AsGood r h
    go (kept s w) =
        (omega (arith, g.0), λ e. before (omega (arith, no_fewer (g.1 (omega (arith, g.0))), w (omega (arith, g.0)))) k)
    go (replaced s w) = g

-- The first n of the offsets, and slope a.
module _ (p : ℕ) (xs : List ℕ) (n a : ℕ) where
  -- a fit of one of the intercepts i to i + m
  pub record OneOf (i m : ℕ) (f : Fit) : Type 0 where
    pub at : ℕ
    pub from : i ≤ at
    pub to : at ≤ i + m
    pub is : f ≡ fit_of p xs n a at

  pub best_one : (i m : ℕ) → OneOf i m (best_of p xs n a i m)
  unfolding best_of
  best_one i zero = record { at = i; from = le_refl i; to = omega arith; is = refl }
  best_one i (suc m) = go (bettered (fit_of p xs n a i) (best_of p xs n a (suc i) m)) (best_one (suc i) m)
    where
      go : {r : Fit} → Bettered (fit_of p xs n a i) (best_of p xs n a (suc i) m) r → OneOf (suc i) m (best_of p xs n a (suc i) m)
          → OneOf i (suc m) r
      go (kept s w) o = record { at = i; from = le_refl i; to = omega arith; is = refl }
      go (replaced s w) o = record { at = o.at; from = omega (arith, o.from); to = omega (arith, o.to); is = o.is }

  pub best_each : (i m u : ℕ) → i ≤ u → u ≤ i + m → AsGood (best_of p xs n a i m) (fit_of p xs n a u)
  unfolding best_of fit_of
  best_each i zero u h k = let e : u ≡ i = omega arith in rw e (itself (fit_of p xs n a i))
  best_each i (suc m) u h k = go (le_cases i u h) (λ q. best_each (suc i) m u q (omega arith))
    where
      go : (u ≡ i) ⊎ (suc i ≤ u) → (suc i ≤ u → AsGood (best_of p xs n a (suc i) m) (fit_of p xs n a u))
          → AsGood (better (fit_of p xs n a i) (best_of p xs n a (suc i) m)) (fit_of p xs n a u)
      go (inl e) ih = rw e (as_first (fit_of p xs n a i) (best_of p xs n a (suc i) m) (fit_of p xs n a i) (itself (fit_of p xs n a i)))
      go (inr q) ih = as_second (fit_of p xs n a i) (best_of p xs n a (suc i) m) (fit_of p xs n a u) (ih q) (inr (refl, h))
