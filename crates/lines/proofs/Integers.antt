-- An integer's text by its sign: its digits are those of its distance from 0. Assumes nothing.
use mathlib.Core.Path.{◌≡◌, refl}
use native.Mathlib.Omega.{arith}
use borrow.Author.Tests.{le-ltb}
use Rattle.std.specs.Prelude.{ℤ, pos, negsuc, int_lt, unsigned_abs}
use Rattle.lines.specs.Printed.{decimal, signed, integer}

pub integer_abs : (z : ℤ) → signed (int_lt z (pos 0)) (decimal (unsigned_abs z)) ≡ integer z
unfolding integer
integer_abs (pos n) = rw (le-ltb n 0 (omega arith))
integer_abs (negsuc n) = refl
