-- How many intercepts of a slope may be right, and the most of them. Assumes nothing.
use mathlib.Core.Path.{◌≡◌, refl, ap}
use mathlib.Core.Bool.{Bool, true, false}
use mathlib.Core.Logic.{◌≢◌}
use Prim.Native.Nat.{ℕ, ◌+◌, ◌-◌, ◌≤◌, ◌<◌, min}
use native.Mathlib.Omega.{arith}
use lib.Dec.{ltb, eqb}
use borrow.Author.Tests.{lt-ltb, le-ltb, eqb-true, eqb-false}
use Rattle.slopes.specs.Counting.{width_of}

module _ (g low high : ℕ) where
  pub width_none : high < low → 0 ≡ width_of g low high
  unfolding width_of
  width_none h = rw (lt-ltb high low h, width_of)

  pub width_some : (n : ℕ) → low ≤ high → n ≡ min (high - low) g → n + 1 ≡ width_of g low high
  unfolding width_of
  width_some n h e = rw (le-ltb high low h, width_of) (ap (λ (m : ℕ). m + 1) e)

  pub width_most : g ≤ 15 → width_of g low high ≤ 16
  unfolding width_of
  width_most h = go (ltb high low) refl
    where
      go : (t : Bool) → ltb high low ≡ t → width_of g low high ≤ 16
      go true e = rw (e, width_of) (omega arith)
      go false e = rw (e, width_of) (omega arith)

-- none of the first k widths is above the top
pub record Topped (f : ℕ → ℕ) (top k : ℕ) : Type 0 where
  pub small : top ≤ 16
  pub each : (j : ℕ) → j < k → f j ≤ top

pub topped_turn : (f : ℕ → ℕ) (top top' k : ℕ) → f k ≤ top' → top ≤ top' → top' ≤ 16 → Topped f top k → Topped f top' (k + 1)
topped_turn f top top' k a b m s = record { small = m; each = λ j q. go j q (eqb j k) refl }
  where
    go : (j : ℕ) → j < k + 1 → (t : Bool) → eqb j k ≡ t → f j ≤ top'
    go j q true e = let y : j ≡ k = eqb-true j k e in rw y a
    go j q false e = let n : j ≢ k = eqb-false j k e in omega (arith, s.each j (omega arith))
