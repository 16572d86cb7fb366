-- A loop that stores 32 numbers of a list, one after the other. Assumes nothing.
use mathlib.Core.Path.{◌≡◌, refl, ◌∙◌}
use mathlib.Core.List.{List}
use mathlib.Core.Logic.{◌≢◌}
use mathlib.Core.Bool.{Bool, true, false}
use Prim.Native.Nat.{ℕ, ◌+◌, ◌*◌, ◌≤◌, ◌<◌}
use native.Mathlib.Omega.{arith}
use lib.Dec.{eqb}
use lib.ListN.{length, get_or, set, length-set}
use lib.Seq.{get_or-set_same, get_or-set_other}
use borrow.Author.Tests.{eqb-true, eqb-false}
use Rattle.slopes.specs.Counting.{Stored}

-- k of them are stored, from `at` on
pub record Storing (at : ℕ) (f : ℕ → ℕ) (l₀ l : List ℕ) (k : ℕ) : Type 0 where
  pub few : k ≤ 32
  pub long : length l ≡ length l₀
  pub done : (j : ℕ) → j < k → get_or l (at + j) 0 ≡ f j
  pub below : (j : ℕ) → j < at → get_or l j 0 ≡ get_or l₀ j 0
  pub behind : (j : ℕ) → at + k ≤ j → get_or l j 0 ≡ get_or l₀ j 0

module _ (at : ℕ) (f : ℕ → ℕ) (l₀ : List ℕ) where
  pub storing_turn : (l : List ℕ) (k i v : ℕ) → at + 32 ≤ length l₀ → i ≡ at + k → k < 32 → v ≡ f k → Storing at f l₀ l k
      → Storing at f l₀ (set l i v) (k + 1)
  storing_turn l k i v w e h q s = record {
    few = omega arith;
    long = length-set l i v ∙ s.long;
    done = λ j m. go j m (eqb j k) refl;
    below = λ j m. get_or-set_other l i j v 0 (λ z. omega arith) ∙ s.below j m;
    behind = λ j m. get_or-set_other l i j v 0 (λ z. omega arith) ∙ s.behind j (omega arith);
  }
    where
      go : (j : ℕ) → j < k + 1 → (t : Bool) → eqb j k ≡ t → get_or (set l i v) (at + j) 0 ≡ f j
      go j m true z =
          let y : j ≡ k = eqb-true j k z in
          rw (y, ← e) (get_or-set_same l i v 0 (omega (arith, s.long)) ∙ q)
      go j m false z =
          let n : j ≢ k = eqb-false j k z in
          get_or-set_other l i (at + j) v 0 (λ y. n (omega arith)) ∙ s.done j (omega arith)

-- n times 32 numbers are stored, from the first on
pub record Blocks (f : ℕ → ℕ → ℕ) (l₀ l : List ℕ) (n : ℕ) : Type 0 where
  pub long : length l ≡ length l₀
  pub done : (i k : ℕ) → i < n → k < 32 → get_or l (32 * i + k) 0 ≡ f i k
  pub rest : (j : ℕ) → 32 * n ≤ j → get_or l j 0 ≡ get_or l₀ j 0

module _ (f : ℕ → ℕ → ℕ) (l₀ : List ℕ) where
  pub blocks-turn : (l l' : List ℕ) (n at : ℕ) (f' : ℕ → ℕ) → at ≡ 32 * n → ((k : ℕ) → k < 32 → f' k ≡ f n k) → Blocks f l₀ l n
      → Stored at f' l l' → Blocks f l₀ l' (n + 1)
  blocks-turn l l' n at f' e q b s = record {
    long = s.long ∙ b.long;
    done = λ i k h m. go i k h m (eqb i n) refl;
    rest = λ j h. s.behind j (omega arith) ∙ b.rest j (omega arith);
  }
    where
      go : (i k : ℕ) → i < n + 1 → k < 32 → (t : Bool) → eqb i n ≡ t → get_or l' (32 * i + k) 0 ≡ f i k
      go i k h m true z = let y : i ≡ n = eqb-true i n z in rw (y, ← e) (s.here k m ∙ q k m)
      go i k h m false z =
          let y : i ≢ n = eqb-false i n z in
          s.below (32 * i + k) (omega arith) ∙ b.done i k (omega arith) m
