-- n less m as a signed number: for two numbers below 2 ^ 31 the difference fits 32 bits. Assumes nothing.
use mathlib.Core.Path.{◌≡◌, refl, sym, ◌∙◌}
use mathlib.Core.Bool.{Bool, true, false, cond}
use Prim.Native.Nat.{ℕ, zero, suc, ◌+◌, ◌-◌, ◌<◌}
use native.Mathlib.Omega.{arith}
use lib.Dec.{ltb}
use lib.IntN.{pos, negsuc, sub_ℕ, ◌-ℤ◌}
use borrow.Author.Tests.{le-ltb}
use mir.Syntax.{w32}
use mir.Val.{SFits, to_z, of_z}
use mir.Facts.{to_z_pos, to_z-of_z}

-- less nothing
pub less_zero : (n : ℕ) → sub_ℕ n 0 ≡ pos n
less_zero n = let e : n - 0 ≡ n = omega arith in rw (le-ltb n 0 (omega arith), e)

-- n itself, as a signed number
pub whole : (n : ℕ) → n < 2147483648 → to_z w32 n ≡ sub_ℕ n 0
whole n h = to_z_pos w32 {n = n} h ∙ sym (less_zero n)

minus : (n m : ℕ) → pos n -ℤ pos m ≡ sub_ℕ n m
minus n zero = let e : n + 0 ≡ n - 0 = omega arith in rw (le-ltb n 0 (omega arith), e)
minus n (suc m) = refl

module _ (n m : ℕ) (h : n < 2147483648) (k : m < 2147483648) where
  less_is : to_z w32 n -ℤ to_z w32 m ≡ sub_ℕ n m
  less_is = rw (to_z_pos w32 {n = n} h, to_z_pos w32 {n = m} k) (minus n m)

  less-fits : SFits w32 (sub_ℕ n m)
  less-fits = go (ltb n m) refl
    where
      go : (t : Bool) → ltb n m ≡ t → SFits w32 (cond t (negsuc (m - suc n)) (pos (n - m)))
      go true e = record { sfits = omega arith }
      go false e = record { sfits = omega arith }

  -- n less m, as the code has it
  pub less : to_z w32 (of_z w32 (to_z w32 n -ℤ to_z w32 m)) ≡ sub_ℕ n m
  less = rw less_is (to_z-of_z {w = w32} less-fits)
