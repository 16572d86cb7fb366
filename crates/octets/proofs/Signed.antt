-- A signed number of 32 bits against its bits, by its sign: -1 - k is the number whose bits are 4,294,967,295 - k. Assumes nothing.
use Prim.Native.Nat.{ℕ, suc, ◌-◌, ◌≤◌}
use native.Mathlib.Omega.{arith}
use lib.Dec.{T}
use mathlib.Core.Bool.{Bool, true, false, cond, true≢false, false≢true}
use borrow.Author.Tests.{le-ltb, le-leb}
use mathlib.Core.Path.{◌≡◌, refl, ap, ◌∙◌, sym}
use lib.IntN.{ℤ, pos, negsuc, ◌-ℤ◌, nat_abs}
use lib.Signed.{le_z, non_neg}
use mir.Syntax.{w32}
use mir.Val.{SFits, Fits, of_z}

-- a number that passed the test z >= 0
pub of_nonneg : (z : ℤ) → SFits w32 z → le_z (pos 0) z ≡ true → (T (non_neg z) × Fits w32 (nat_abs z)) × (nat_abs z ≡ of_z w32 z)
of_nonneg (pos n) f h = ((tt, record { fits = omega (arith, f.sfits) }), refl)
of_nonneg (negsuc n) f h = absurd (false≢true h)

-- -1 - -(n + 1) is n
flip : (n : ℕ) → negsuc 0 -ℤ negsuc n ≡ pos n
flip n =
    ap (λ (t : Bool). cond t (negsuc (1 - suc (suc n))) (pos (suc n - 1))) (le-ltb (suc n) 1 (omega arith))
    ∙ ap pos (let e : suc n - 1 ≡ n = omega arith in e)

-- y is -1 - z, of a negative z
pub record Flipped (z y : ℤ) : Type 0 where
  pub fits : SFits w32 y
  pub cast : T (non_neg y) × Fits w32 (nat_abs y)
  pub small : nat_abs y ≤ 2147483647
  pub bits : 4294967295 - nat_abs y ≡ of_z w32 z

-- a number that failed the test
pub of_neg : (z : ℤ) → SFits w32 z → le_z (pos 0) z ≡ false → Flipped z (negsuc 0 -ℤ z)
of_neg (pos n) f h = absurd (true≢false (sym (le-leb 0 n (omega arith)) ∙ h))
of_neg (negsuc n) f h =
    rw (flip n)
    (record {
      fits = record { sfits = f.sfits };
      cast = (tt, record { fits = omega (arith, f.sfits) });
      small = omega (arith, f.sfits);
      bits = omega (arith, f.sfits);
    })
