-- Intercepts that suit several pages suit each of them. Assumes nothing.
use mathlib.Core.Path.{◌≡◌, ap₂}
use mathlib.Core.List.{List}
use Prim.Native.Nat.{ℕ, zero, suc, ◌+◌, ◌≤◌, min, max}
use native.Mathlib.Omega.{arith}
use Rattle.model.specs.Learning.{Intercepts, common}
use Rattle.slopes.specs.Slopes.{suit_at, window}

-- the intercepts x are among y
pub record Within (x y : Intercepts) : Type 0 where
  pub low : y.least ≤ x.least
  pub high : x.most ≤ y.most

-- those that suit m + k + 1 places from i on suit the one m places on
pub window-within : (g : ℕ) (w : List ℕ) (a i m k : ℕ) → Within (window g w a i (m + k)) (suit_at g w a (i + m))
unfolding window common
window-within g w a i m (suc k) =
    let e : m + suc k ≡ suc (m + k) = omega arith in
    let b = window-within g w a i m k in
    rw e (record { low = omega (arith, b.low); high = omega (arith, b.high) })
window-within g w a i zero zero = let e : i + 0 ≡ i = omega arith in rw e (record { low = omega arith; high = omega arith })
window-within g w a i (suc m) zero = let e : suc m + 0 ≡ suc m = omega arith in rw e (record { low = omega arith; high = omega arith })

-- what is in x and z is in y, which may be left out
pub common-skip : (x y z : Intercepts) → y.least ≤ max x.least z.least → min x.most z.most ≤ y.most
    → common (common x y) z ≡ common x z
unfolding common
common-skip x y z h k =
    let l : max (max x.least y.least) z.least ≡ max x.least z.least = omega arith in
    let m : min (min x.most y.most) z.most ≡ min x.most z.most = omega arith in
    ap₂ (λ (b c : ℕ). record { least = b; most = c }) l m
