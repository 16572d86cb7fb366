-- The longest approximate run and the best of all, as the slopes are gone through. Assumes nothing.
use mathlib.Core.Path.{◌≡◌, refl, sym, ◌∙◌}
use mathlib.Core.List.{List, [], ◌∷◌}
use Prim.Native.Nat.{ℕ, zero, suc, ◌%◌, ◌≤◌, ◌<◌, max}
use native.Mathlib.Omega.{arith}
use lib.ListN.{length, get_or, take}
use Rattle.model.specs.Learning.{Fit, fit, better, best_fit, wrongs, wrong_at}
use Rattle.model.proofs.Fewest.{Bettered, kept, replaced, bettered as bettered_by}
use Rattle.model.proofs.Approximation.{Fitting, best-fitting}
use Rattle.model.proofs.Greedy.{best-size}
use Rattle.slopes.specs.Places.{offsets_behind, offsets_from}
use Rattle.slopes.specs.Slopes.{place_bounds, reach_of, fit_of, longest_of, bettered}
use Rattle.slopes.specs.Counting.{no_fit}
use Rattle.slopes.proofs.Fits.{wrong-small, fewer-second, better_assoc}

-- the better of two is as long as the longer
longer_of : (f h : Fit) → (better f h).size ≡ max f.size h.size
longer_of f h = go (bettered_by f h)
  where
    go : {r : Fit} → Bettered f h r → r.size ≡ max f.size h.size
    go (kept s w) = omega arith
    go (replaced s w) = omega arith

-- no more are wrong than there are
wrongs-few : (a u p n : ℕ) (l : List ℕ) → wrongs a u p (take n l) ≤ n
unfolding wrongs
wrongs-few a u p zero l = omega arith
wrongs-few a u p (suc n) [] = omega arith
wrongs-few a u p (suc n) (o ∷ l) = omega (arith, wrong-small a u o p (wrong_at a u o p) refl, wrongs-few a u (suc p) n l)

module _ (g : ℕ) (w : List ℕ) (i : ℕ) where
  -- the best of the slopes a to a + n, in places
  abbrev pub best_in : ℕ → ℕ → Fit
  best_in a n = best_fit (place_bounds g w) i (offsets_from w i) a n

  fit-size : (a : ℕ) → (fit_of g w i a).size ≡ (reach_of g w i a).size
  unfolding fit_of reach_of fit
  fit-size a = best-size i _ _ a _ _

  pub best-longest : (a n : ℕ) → (best_in a n).size ≡ longest_of g w i a n
  unfolding best_fit longest_of fit_of
  best-longest a zero = fit-size a
  best-longest a (suc n) =
      longer_of (fit (place_bounds g w) a i (get_or w i 0 % 256) (offsets_behind w i)) (best_in (suc a) n)
      ∙ rw (fit-size a, best-longest (suc a) n)

  bettered_is : (f : Fit) (a n : ℕ) → bettered g w i f a (suc n) ≡ better f (best_in a n)
  unfolding bettered best_fit fit_of
  bettered_is f a zero = refl
  bettered_is f a (suc n) =
      bettered_is (better f (fit_of g w i a)) (suc a) n ∙ sym (better_assoc f (fit_of g w i a) (best_in (suc a) n))

  -- what is found is the best of the slopes up to 255
  pub found_is : (n : ℕ) → i < length w → n ≡ longest_of g w i 0 255 → bettered g w i (no_fit n) 0 256 ≡ best_in 0 255
  found_is n h e =
      let f : Fitting (place_bounds g w) i (offsets_from w i) (best_in 0 255) = best-fitting (place_bounds g w) i _ _ 0 255 (omega arith) (omega arith) (omega arith) in
      let k = wrongs-few (best_in 0 255).slope (best_in 0 255).intercept i (best_in 0 255).size (offsets_from w i) in
      bettered_is (no_fit n) 0 255
      ∙ sym (fewer-second (no_fit n) (best_in 0 255) (omega (arith, best-longest 0 255)) (omega (arith, f.counted, k, best-longest 0 255)))
