-- What a search by halves finds among numbers, and a test of a slot that one goes by. Assumes nothing.
use Rattle.std.specs.Prelude.{◌≡◌, Bool, true, false, ℕ, ◌+◌, ◌-◌, ◌≤◌, ◌<◌, ltb}
use Rattle.group.specs.declared.Slot.{Slot}

-- what a test may answer of each number below n is what t says of it
abbrev pub Told : (ℕ → Bool → Type 0) → (ℕ → Bool) → ℕ → Type 0
Told answers t n = (i : ℕ) (r : Bool) → i < n → answers i r → r ≡ t i

-- the last number before `low`, if there is one, passes the test, and `high`, if it is below n, fails it
pub record Border (t : ℕ → Bool) (n low high : ℕ) : Type 0 where
  pub order : low ≤ high
  pub inside : high ≤ n
  pub below : 0 < low → t (low - 1) ≡ true
  pub above : high < n → t high ≡ false

-- the slot's record ends before `start`
abbrev pub is_early : ℕ → Slot → Bool
is_early start s = ltb (s.held.start + s.held.span) start
