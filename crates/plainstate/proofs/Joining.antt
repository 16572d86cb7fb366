-- Numbers joined bit by bit: by `|` neither gets smaller, so nothing comes of nothing alone; by `^` nothing comes of equals alone.
-- Assumes nothing.
use mathlib.Core.Path.{◌≡◌}
use Prim.Native.Nat.{ℕ, ◌≤◌}
use native.Mathlib.Omega.{arith}
use lib.Bits.{bit_or, bit_xor, or_add_and, xor_add_and, and_le_l, and_le_r}

module _ (a b : ℕ) where
  pub or_most_l : a ≤ bit_or a b
  or_most_l = omega (arith, or_add_and a b, and_le_r a b)

  pub or_most_r : b ≤ bit_or a b
  or_most_r = omega (arith, or_add_and a b, and_le_l a b)

  pub or_none_l : bit_or a b ≡ 0 → a ≡ 0
  or_none_l e = omega (arith, e, or_most_l)

  pub or_none_r : bit_or a b ≡ 0 → b ≡ 0
  or_none_r e = omega (arith, e, or_most_r)

  pub xor_none : bit_xor a b ≡ 0 → a ≡ b
  xor_none e = omega (arith, e, xor_add_and a b, and_le_l a b, and_le_r a b)
