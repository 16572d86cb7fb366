-- The greedy rule leaves no choice: of the runs at a place, and of the runs of a list of pages, only one is its. Assumes nothing.
use mathlib.Core.Path.{◌≡◌, refl, sym, ◌∙◌, ap, ap₂}
use mathlib.Core.List.{List, ◌∷◌}
use Prim.Native.Nat.{ℕ, ◌+◌}
use native.Mathlib.Omega.{arith}
use lib.IntN.{ℤ}
use lib.ListN.{take, drop}
use Rattle.model.specs.Record.{Record}
use Rattle.model.specs.Learning.{Run, Bounds}
use Rattle.model.specs.Demand2.{ApproximateRun, wrong_predictions, Preferred, fewer, flatter, lower, accurate_of, GreedyRun, Greedy}
use Rattle.model.proofs.Integers.{at_most_both}

-- two lines of which each is preferred to the other are the same
preferred_both : {w a v c : ℕ} {I J : ℤ} → Preferred w a I v c J → Preferred v c J w a I → (a ≡ c) × (I ≡ J)
preferred_both (fewer h) (fewer k) = absurd (omega arith)
preferred_both (fewer h) (flatter k m) = absurd (omega arith)
preferred_both (fewer h) (lower k m n) = absurd (omega arith)
preferred_both (flatter h i) (fewer k) = absurd (omega arith)
preferred_both (flatter h i) (flatter k m) = absurd (omega arith)
preferred_both (flatter h i) (lower k m n) = absurd (omega arith)
preferred_both (lower h i j) (fewer k) = absurd (omega arith)
preferred_both (lower h i j) (flatter k m) = absurd (omega arith)
preferred_both {I} {J} (lower h i j) (lower k m n) = (i, at_most_both I J j n)

module _ (b : Bounds) (p : ℕ) (l : List ℕ) where
  -- slope a and intercept I are preferred to those of every approximate run of n pages
  abbrev Best : ℕ → ℕ → ℤ → Type 0
  Best n a I = (c : ℕ) (J : ℤ) → ApproximateRun b p l n c J
      → Preferred (wrong_predictions a I p (take n l)) a I (wrong_predictions c J p (take n l)) c J

  -- so there is one slope and one intercept of that kind
  same_line : (n a a' : ℕ) (I I' : ℤ) → ApproximateRun b p l n a I → ApproximateRun b p l n a' I' → Best n a I → Best n a' I'
      → (a ≡ a') × (I ≡ I')
  same_line n a a' I I' r r' s s' = preferred_both (s a' I' r') (s' a I r)

  -- The run at a place is one.
  run_only : {r r' : Record} {n n' : ℕ} → GreedyRun b p l r n → GreedyRun b p l r' n' → (r ≡ r') × (n ≡ n')
  run_only (GreedyRun.single c f g) (GreedyRun.single c' f' g') = (refl, refl)
  run_only (GreedyRun.single c f g) (GreedyRun.accurate n' h' c' f' g') = absurd (omega (arith, f n' c'))
  run_only (GreedyRun.single c f g) (GreedyRun.approximate n' a' I' c' f' g' s') = absurd (omega (arith, g n' a' I' c', f' 1 c))
  run_only (GreedyRun.accurate n h c f g) (GreedyRun.single c' f' g') = absurd (omega (arith, f' n c))
  run_only (GreedyRun.accurate n h c f g) (GreedyRun.accurate n' h' c' f' g') =
      let e : n ≡ n' = omega (arith, f n' c', f' n c) in
      (ap (accurate_of p l) e, e)
  run_only (GreedyRun.accurate n h c f g) (GreedyRun.approximate n' a' I' c' f' g' s') = absurd (omega (arith, g n' a' I' c', f' n c))
  run_only (GreedyRun.approximate n a I c f g s) (GreedyRun.single c' f' g') = absurd (omega (arith, g' n a I c, f 1 c'))
  run_only (GreedyRun.approximate n a I c f g s) (GreedyRun.accurate n' h' c' f' g') = absurd (omega (arith, g' n a I c, f n' c'))
  run_only (GreedyRun.approximate n a I c f g s) (GreedyRun.approximate n' a' I' c' f' g' s') =
      let e : n ≡ n' = omega (arith, g n' a' I' c', g' n a I c) in
      let (u, v) = same_line n a a' I I' c (rw e c') s (rw e s') in
      (rw (e, u, v), e)

same_run : (r r' : Run) → r.group ≡ r'.group → r.learned ≡ r'.learned → r.taken ≡ r'.taken → r ≡ r'
same_run r r' e f g = λ i. record { group = e i; learned = f i; taken = g i }

-- The runs of the greedy rule are one list.
pub greedy_only : {b : Bounds} {p : ℕ} {l : List ℕ} {rs rs' : List Run} → Greedy b p l rs → Greedy b p l rs' → rs ≡ rs'
greedy_only (Greedy.end p) (Greedy.end _) = refl
greedy_only {b} (Greedy.run p x l r rs e h t) (Greedy.run _ _ _ r' rs' e' h' t') = go (run_only b p (x ∷ l) h h') (λ q. greedy_only t q)
  where
    go : (r.learned ≡ r'.learned) × (r.taken ≡ r'.taken) → (Greedy b (p + r.taken) (drop r.taken (x ∷ l)) rs' → rs ≡ rs')
        → r ∷ rs ≡ r' ∷ rs'
    go (u, v) ih = ap₂ (λ (s : Run) (ss : List Run). s ∷ ss) (same_run r r' (e ∙ sym e') u v) (ih (rw v t'))
