-- A fit and what was chosen for 32 slopes, compared slope by slope. Assumes nothing.
use mathlib.Core.Path.{◌≡◌, refl, sym, ◌∙◌}
use mathlib.Core.Bool.{Bool, true, false, ◌&&◌, not}
use mathlib.Core.List.{List}
use Prim.Native.Nat.{ℕ, suc, ◌+◌, ◌-◌, ◌≤◌, ◌<◌}
use native.Mathlib.Omega.{arith}
use lib.Dec.{ltb, eqb}
use lib.ListN.{get_or}
use borrow.Author.Tests.{ltb-true, ltb-false, eqb-true, eqb-false, not-true}
use Rattle.model.specs.Learning.{Fit, better}
use Rattle.model.proofs.Bools.{and_l, and_r}
use Rattle.slopes.specs.Slopes.{fit_of, bettered}
use Rattle.slopes.specs.Counting.{Chosen}
use Rattle.slopes.proofs.Fits.{longer_first, fewer_first, fewer-second}

module _ (n a : ℕ) (low widths most choice : List ℕ) where
  -- the fit that was chosen for slope k, and the test whether it is better than f
  abbrev chosen : ℕ → Fit
  chosen k = record { slope = a + k; intercept = get_or low k 0 + get_or choice k 0; size = n; wrong = n - get_or most k 0 }

  abbrev wins : ℕ → Fit → Bool
  wins k f = not (eqb (get_or widths k 0) 0) && ltb (n - get_or most k 0) f.wrong

  module _ (g : ℕ) (w : List ℕ) (i k : ℕ) (f : Fit) (s : f.size ≡ n) (c : Chosen g w i n a low widths most choice k) where
    won : wins k f ≡ true → chosen k ≡ better f (fit_of g w i (a + k))
    won h =
        let q : n - get_or most k 0 < f.wrong = ltb-true _ _ (and_r (not (eqb (get_or widths k 0) 0)) _ h) in
        let t : not (eqb (get_or widths k 0) 0) ≡ true = and_l (not (eqb (get_or widths k 0) 0)) _ h in
        rw (c.best (eqb-false (get_or widths k 0) 0 (not-true _ t))) (fewer-second f _ (omega arith) q)

    lost : wins k f ≡ false → f ≡ better f (fit_of g w i (a + k))
    lost h = go (eqb (get_or widths k 0) 0) refl
      where
        go : (t : Bool) → eqb (get_or widths k 0) 0 ≡ t → f ≡ better f (fit_of g w i (a + k))
        go true e = longer_first f _ (omega (arith, c.short (eqb-true (get_or widths k 0) 0 e)))
        go false e =
            let q : ltb (n - get_or most k 0) f.wrong ≡ false = rw e at h in
            rw (c.best (eqb-false (get_or widths k 0) 0 e)) (fewer_first f _ (omega arith) (ltb-false _ _ q))

  -- f is the best of a fit and the first k slopes
  pub record Compared (f₀ f : Fit) (k : ℕ) : Type 0 where
    pub few : k ≤ 32
    pub size : f.size ≡ n
    pub rest : (g : ℕ) (w : List ℕ) (i : ℕ) → ((j : ℕ) → j < 32 → Chosen g w i n a low widths most choice j)
        → bettered g w i f₀ a 32 ≡ bettered g w i f (a + k) (32 - k)

  module _ (f₀ f : Fit) (k : ℕ) (r : Compared f₀ f k) where
    next : (f' : Fit) → f'.size ≡ n → k < 32
        → ((g : ℕ) (w : List ℕ) (i : ℕ) → Chosen g w i n a low widths most choice k → f' ≡ better f (fit_of g w i (a + k))) → Compared f₀ f' (k + 1)
    unfolding bettered
    next f' s b is = record {
      few = omega arith;
      size = s;
      rest = λ g w i h.
          let x : 32 - k ≡ suc (32 - (k + 1)) = omega arith in
          let y : a + (k + 1) ≡ suc (a + k) = omega arith in
          r.rest g w i h ∙ rw (x, y, is g w i (h k b));
    }

    pub compared_won : k < 32 → wins k f ≡ true → Compared f₀ (chosen k) (k + 1)
    compared_won b h = next (chosen k) refl b (λ g w i c. won g w i k f r.size c h)

    pub compared_lost : k < 32 → wins k f ≡ false → Compared f₀ f (k + 1)
    compared_lost b h = next f r.size b (λ g w i c. lost g w i k f r.size c h)

    pub compared_all : 32 ≤ k → (g : ℕ) (w : List ℕ) (i : ℕ) → ((j : ℕ) → j < 32 → Chosen g w i n a low widths most choice j)
        → f ≡ bettered g w i f₀ a 32
    unfolding bettered
    compared_all b g w i h = let z : 32 - k ≡ 0 = omega arith in sym (r.rest g w i h ∙ rw z)
