-- The best run, 32 slopes at a time: those that can't take all pages are left out, some may be compared twice. Assumes nothing.
use mathlib.Core.Path.{◌≡◌, sym, ap, ◌∙◌}
use mathlib.Core.Bool.{true}
use mathlib.Core.List.{List}
use mathlib.Core.Logic.{◌⊎◌, inl, inr}
use Prim.Native.Nat.{ℕ, ◌+◌, ◌-◌, ◌≤◌, ◌<◌, min}
use native.Mathlib.Omega.{arith}
use Rattle.model.specs.Learning.{Fit}
use Rattle.model.proofs.Bools.{is_false}
use Rattle.slopes.specs.Slopes.{takes, reach_of, fit_of, longest_of, bettered}
use Rattle.slopes.specs.Counting.{no_fit}
use Rattle.slopes.specs.declared.windows.Sought.{Sought}
use Rattle.slopes.proofs.WindowReach.{reach_few}
use Rattle.slopes.proofs.LongestOf.{longest_most, longest_some}
use Rattle.slopes.proofs.SlopeFits.{fit-size}
use Rattle.slopes.proofs.ChosenFits.{shorter}
use Rattle.slopes.proofs.Unbeaten.{bettered-short, bettered-size, bettered_add, bettered-again}

module _ (s : Sought) (n : ℕ) (some : 1 ≤ n) (longest : n ≡ longest_of s.g s.written.now s.place 0 255) where
  abbrev w : List ℕ
  w = s.written.now

  pub none_longer : (a : ℕ) → a ≤ 255 → (reach_of s.g w s.place a).size ≤ n
  none_longer a h = rw longest (longest_some s.g w s.place 0 255 a (omega arith) (omega arith))

  pub longest-inside : s.place + n ≤ s.end
  longest-inside =
      let few = longest_most s.g w s.place 0 255 (s.end - s.place) (λ a h k. omega (arith, (reach_few s a (omega arith)).1)) in
      omega (arith, longest, few, s.seeking.inside)

  -- the best of the slopes below `next`
  abbrev best_below : ℕ → Fit
  best_below next = bettered s.g w s.place (no_fit n) 0 (min next 256)

  pub below-size : (next : ℕ) → (best_below next).size ≡ n
  below-size next = bettered-size s.g w s.place (no_fit n) 0 (min next 256)
      (λ k h. rw (fit-size s.g w s.place (0 + k)) (none_longer (0 + k) (omega arith)))

  pub below-turn : (f f' : Fit) (next a : ℕ) → a ≡ min next 224 → next ≤ 255 → f ≡ best_below next → f' ≡ bettered s.g w s.place f a 32
      → f' ≡ best_below (next + 32)
  below-turn f f' next a e h p q =
      let y : min next 256 ≡ next = omega arith in
      let z : min (next + 32) 256 ≡ a + 32 = omega arith in
      let p' : f ≡ bettered s.g w s.place (no_fit n) 0 next = rw y at p in
      rw z (q ∙ rw p' (bettered-again s.g w s.place (no_fit n) next a 32 (omega arith) (omega arith)))

  -- where slopes before `first` and behind `last` don't take the last page
  module _ (first last m : ℕ) (e : m ≡ n - 1)
      (range : (a : ℕ) → a ≤ 255 → takes s.g w a s.place m ≡ true → (first ≤ a) × (a ≤ last)) where
    outside : (a : ℕ) → a ≤ 255 → (a < first) ⊎ (last < a) → (fit_of s.g w s.place a).size < n
    outside a h k = shorter s a n (omega arith) some (rw (← e) (is_false _ (λ t. go (range a h t) k)))
      where
        go : (first ≤ a) × (a ≤ last) → (a < first) ⊎ (last < a) → ⊥
        go r (inl x) = omega arith
        go r (inr x) = omega arith

    pub below-start : no_fit n ≡ best_below first
    below-start = sym (bettered-short s.g w s.place (no_fit n) 0 (min first 256) (λ k h. outside (0 + k) (omega arith) (inl (omega arith))))

    pub below_end : (f : Fit) (next : ℕ) → last < next → f ≡ best_below next → f ≡ bettered s.g w s.place (no_fit n) 0 256
    below_end f next h p =
        let k : ℕ = min next 256 in
        let y : k + (256 - k) ≡ 256 = omega arith in
        let all = bettered_add s.g w s.place (no_fit n) 0 k (256 - k) in
        let rest : bettered s.g w s.place (best_below next) (0 + k) (256 - k) ≡ best_below next =
        bettered-short s.g w s.place (best_below next) (0 + k) (256 - k)
        (λ j b. rw (below-size next) (outside (0 + k + j) (omega arith) (inr (omega arith)))) in
        p ∙ sym rest ∙ sym all ∙ ap (bettered s.g w s.place (no_fit n) 0) y
