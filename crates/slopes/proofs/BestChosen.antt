-- The best of a slope's intercepts, chosen by how many pages each predicts rightly. Assumes nothing.
use mathlib.Core.Path.{◌≡◌, refl, sym, ap, ◌∙◌}
use mathlib.Core.Bool.{Bool, true, false}
use mathlib.Core.List.{List}
use Prim.Native.Nat.{ℕ, zero, suc, ◌+◌, ◌-◌, ◌≤◌, ◌<◌, max}
use native.Mathlib.Omega.{arith}
use native.Mathlib.Nat.{le_refl}
use lib.Dec.{ltb}
use lib.ListN.{take}
use borrow.Author.Tests.{ltb-true, ltb-false}
use Rattle.model.specs.Learning.{Fit, wrongs, fit_of, better, best_of}
use Rattle.slopes.specs.Counting.{pick_of, most_of, choice_of}
use Rattle.slopes.proofs.Choices.{most_few}
use Rattle.slopes.proofs.Fits.{fewer_first, fewer-second, better_assoc}

-- one of two intercepts, the second where it has more right predictions
choose_next : (n a i most right wrong h s : ℕ) → wrong + right ≡ n → most ≤ n
    → better (record { slope = a; intercept = i + h; size = n; wrong = n - most }) (record { slope = a; intercept = i + s; size = n; wrong = wrong })
    ≡ record { slope = a; intercept = i + pick_of (ltb most right) s h; size = n; wrong = n - max most right }
unfolding pick_of
choose_next n a i most right wrong h s e k = go (ltb most right) refl
  where
    first : Fit
    first = record { slope = a; intercept = i + h; size = n; wrong = n - most }

    second : Fit
    second = record { slope = a; intercept = i + s; size = n; wrong = wrong }

    go : (b : Bool) → ltb most right ≡ b
        → better first second ≡ record { slope = a; intercept = i + pick_of (ltb most right) s h; size = n; wrong = n - max most right }
    go true q =
        let m : most < right = ltb-true most right q in
        let z : wrong ≡ n - max most right = omega arith in
        sym (fewer-second first second (le_refl n) (omega arith)) ∙ rw (q, ← z)
    go false q =
        let m : right ≤ most = ltb-false most right q in
        let z : n - most ≡ n - max most right = omega arith in
        sym (fewer_first first second (le_refl n) (omega arith)) ∙ rw (q, ← z)

-- The first n of the offsets, and slope a.
module _ (p : ℕ) (xs : List ℕ) (n a : ℕ) where
  best_last : (i m : ℕ) → best_of p xs n a i (suc m) ≡ better (best_of p xs n a i m) (fit_of p xs n a (i + suc m))
  unfolding best_of
  best_last i zero = let e : i + 1 ≡ suc i = omega arith in rw e
  best_last i (suc m) =
      let e : i + suc (suc m) ≡ suc i + suc m = omega arith in
      rw (e, best_last (suc i) m) (better_assoc _ _ _)

  -- where t counts the right predictions of the intercepts from i on, those that suit
  module _ (i : ℕ) (t : ℕ → ℕ) where
    abbrev counts : ℕ → Type 0
    counts c = wrongs a (i + c) p (take n xs) + t c ≡ n

    -- the fit that the first m counts choose
    abbrev pub chosen_of : ℕ → Fit
    chosen_of m = record { slope = a; intercept = i + choice_of t m; size = n; wrong = n - most_of t m }

    pub best-chosen : (m : ℕ) → ((c : ℕ) → c ≤ m → counts c) → best_of p xs n a i m ≡ chosen_of (suc m)
    unfolding best_of fit_of most_of choice_of pick_of
    best-chosen zero h =
        let z : i + 0 ≡ i = omega arith in
        let c : choice_of t 1 ≡ 0 = pick_same (ltb 0 (t 0)) in
        let v : wrongs a i p (take n xs) ≡ n - max 0 (t 0) = omega (arith, rw z at (h 0 (omega arith))) in
        rw (c, z, v)
      where
        pick_same : (b : Bool) → pick_of b 0 0 ≡ 0
        pick_same true = refl
        pick_same false = refl
    best-chosen (suc m) h = best_last i m ∙ ap (λ (f : Fit). better f (fit_of p xs n a (i + suc m))) (best-chosen m (λ c q. h c (omega arith)))
        ∙ choose_next n a i _ _ _ _ (suc m) (h (suc m) (omega arith)) (most_few t n (suc m) (λ c q. omega (arith, h c (omega arith))))

  -- intercepts that are right for no page don't change it
  pub best-rest : (i m d : ℕ) → (best_of p xs n a i m).size ≡ n → (best_of p xs n a i m).wrong ≤ n
      → ((c : ℕ) → m < c → c ≤ m + d → wrongs a (i + c) p (take n xs) ≡ n)
      → best_of p xs n a i (m + d) ≡ best_of p xs n a i m
  unfolding fit_of
  best-rest i m zero s w h = let z : m + 0 ≡ m = omega arith in rw z
  best-rest i m (suc d) s w h =
      let z : m + suc d ≡ suc (m + d) = omega arith in
      rw (z, best_last i (m + d), best-rest i m d s w (λ c k q. h c k (omega arith)))
      (sym (fewer_first (best_of p xs n a i m) _ (omega arith) (omega (arith, h (suc (m + d)) (omega arith) (omega arith)))))
