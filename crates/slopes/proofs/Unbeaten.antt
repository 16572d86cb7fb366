-- The best of a fit and some slopes: no slope betters it again, and slopes that better nothing may be left out. Assumes nothing.
use mathlib.Core.Path.{◌≡◌, refl, sym, ap, ◌∙◌}
use mathlib.Core.List.{List}
use Prim.Native.Nat.{ℕ, zero, suc, ◌+◌, ◌-◌, ◌≤◌, ◌<◌}
use native.Mathlib.Omega.{arith}
use native.Mathlib.Nat.{le_refl}
use Rattle.model.specs.Learning.{Fit, better}
use Rattle.model.proofs.Fewest as fewest
use Rattle.model.proofs.Fewest.{Bettered, kept, replaced}
use Rattle.slopes.specs.Slopes.{fit_of, bettered}
use Rattle.slopes.proofs.Fits.{better_first}

-- h doesn't better f
abbrev Unbeaten : Fit → Fit → Type 0
Unbeaten f h = (h.size ≤ f.size) × (h.size ≡ f.size → f.wrong ≤ h.wrong)

better_unbeaten : (f f' h : Fit) → Unbeaten f h → Unbeaten (better f f') h
better_unbeaten f f' h u = go (fewest.bettered f f')
  where
    go : {r : Fit} → Bettered f f' r → Unbeaten r h
    go (kept s w) = u
    go (replaced s w) = (omega (arith, u.0), λ e. omega (arith, u.0, u.1 (omega (arith, u.0)), w (omega (arith, u.0))))

second_unbeaten : (f h : Fit) → Unbeaten (better f h) h
second_unbeaten f h = go (fewest.bettered f h)
  where
    go : {r : Fit} → Bettered f h r → Unbeaten r h
    go (kept s w) = (s, w)
    go (replaced s w) = (le_refl _, λ e. le_refl _)

better-size : (f h : Fit) → h.size ≤ f.size → (better f h).size ≡ f.size
better-size f h k = go (fewest.bettered f h)
  where
    go : {r : Fit} → Bettered f h r → r.size ≡ f.size
    go (kept s w) = refl
    go (replaced s w) = omega arith

module _ (g : ℕ) (w : List ℕ) (i : ℕ) where
  -- the slope k places on, counted from the next
  next : (P : ℕ → Type 0) (a n : ℕ) → ((k : ℕ) → k < suc n → P (a + k)) → (P a) × ((k : ℕ) → k < n → P (suc a + k))
  next P a n h =
      let z : a + 0 ≡ a = omega arith in
      (rw z at (h 0 (omega arith)), λ k b. let y : a + suc k ≡ suc a + k = omega arith in rw y at (h (suc k) (omega arith)))

  stays : (f : Fit) (a n : ℕ) (h : Fit) → Unbeaten f h → Unbeaten (bettered g w i f a n) h
  unfolding bettered
  stays f a zero h u = u
  stays f a (suc n) h u = stays (better f (fit_of g w i a)) (suc a) n h (better_unbeaten f (fit_of g w i a) h u)

  -- a slope that was compared doesn't better the best again
  each : (f : Fit) (a n k : ℕ) → k < n → Unbeaten (bettered g w i f a n) (fit_of g w i (a + k))
  unfolding bettered
  each f a zero k b = absurd (omega arith)
  each f a (suc n) zero b =
      let z : a + 0 ≡ a = omega arith in
      rw z (stays (better f (fit_of g w i a)) (suc a) n (fit_of g w i a) (second_unbeaten f (fit_of g w i a)))
  each f a (suc n) (suc k) b =
      let y : a + suc k ≡ suc a + k = omega arith in
      rw y (each (better f (fit_of g w i a)) (suc a) n k (omega arith))

  same : (f : Fit) (a n : ℕ) → ((k : ℕ) → k < n → Unbeaten f (fit_of g w i (a + k))) → bettered g w i f a n ≡ f
  unfolding bettered
  same f a zero h = refl
  same f a (suc n) h =
      let (u, rest) = next (λ b. Unbeaten f (fit_of g w i b)) a n h in
      rw (← (better_first f (fit_of g w i a) u.0 u.1)) (same f (suc a) n rest)

  -- slopes with shorter runs don't change the best
  pub bettered-short : (f : Fit) (a n : ℕ) → ((k : ℕ) → k < n → (fit_of g w i (a + k)).size < f.size) → bettered g w i f a n ≡ f
  bettered-short f a n h = same f a n (λ k b. (omega (arith, h k b), λ e. absurd (omega (arith, h k b))))

  -- runs that are no longer don't change its size
  pub bettered-size : (f : Fit) (a n : ℕ) → ((k : ℕ) → k < n → (fit_of g w i (a + k)).size ≤ f.size) → (bettered g w i f a n).size ≡ f.size
  unfolding bettered
  bettered-size f a zero h = refl
  bettered-size f a (suc n) h =
      let (u, rest) = next (λ b. (fit_of g w i b).size ≤ f.size) a n h in
      let e : (better f (fit_of g w i a)).size ≡ f.size = better-size f (fit_of g w i a) u in
      bettered-size (better f (fit_of g w i a)) (suc a) n (λ k b. rw e (rest k b)) ∙ e

  pub bettered_add : (f : Fit) (a m n : ℕ) → bettered g w i f a (m + n) ≡ bettered g w i (bettered g w i f a m) (a + m) n
  unfolding bettered
  bettered_add f a zero n =
      let y : 0 + n ≡ n = omega arith in
      let z : a + 0 ≡ a = omega arith in
      rw (y, z)
  bettered_add f a (suc m) n =
      let y : suc m + n ≡ suc (m + n) = omega arith in
      let z : a + suc m ≡ suc a + m = omega arith in
      rw (y, z) (bettered_add (better f (fit_of g w i a)) (suc a) m n)

  -- slopes from one of the first n on, some of them compared again
  pub bettered-again : (f : Fit) (n a m : ℕ) → a ≤ n → n ≤ a + m → bettered g w i (bettered g w i f 0 n) a m ≡ bettered g w i f 0 (a + m)
  bettered-again f n a m h k =
      let best : Fit = bettered g w i f 0 n in
      let d : ℕ = a + m - n in
      let x : m ≡ n - a + d = omega arith in
      let y : a + (n - a) ≡ n = omega arith in
      let z : 0 + n ≡ n = omega arith in
      let v : n + d ≡ a + m = omega arith in
      let old : bettered g w i best a (n - a) ≡ best =
      same best a (n - a) (λ j b. let u : 0 + (a + j) ≡ a + j = omega arith in rw u at (each f 0 n (a + j) (omega arith))) in
      let more : bettered g w i best a (n - a + d) ≡ bettered g w i best n d =
      bettered_add best a (n - a) d ∙ rw (old, y) in
      let all : bettered g w i f 0 (n + d) ≡ bettered g w i best n d = bettered_add f 0 n d ∙ rw z in
      ap (bettered g w i best a) x ∙ more ∙ sym all ∙ ap (bettered g w i f 0) v
