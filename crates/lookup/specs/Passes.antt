-- Two tables compared number by number. Assumes nothing.
use Rattle.std.specs.Prelude.{◌≡◌, List, Bool, true, false, ℕ, ◌<◌, get_or}

-- some number before the m-th differs
pub record Differ (l k : List ℕ) (m : ℕ) : Type 0 where
  pub place : ℕ
  pub inside : place < m
  pub apart : get_or l place 0 ≡ get_or k place 0 → ⊥

-- the test says whether all of them are the same
pub record SameBelow (l k : List ℕ) (m : ℕ) (same : Bool) : Type 0 where
  pub yes : same ≡ true → (o : ℕ) → o < m → get_or l o 0 ≡ get_or k o 0
  pub no : same ≡ false → Differ l k m
