-- Where a slope rises by at most one a place all the way, or by at least one, the intercepts that suit two places suit those between
-- them. Assumes nothing.
use mathlib.Core.Path.{◌≡◌, refl}
use mathlib.Core.Bool.{Bool, true, false}
use Prim.Native.Nat.{ℕ, ◌+◌, ◌*◌, ◌-◌, ◌≤◌, min, max}
use native.Mathlib.Omega.{arith}
use native.Mathlib.Nat.{le_trans, le-max_left, le-max_right, min-le_left, min-le_right, mul-le-mul_left}
use lib.Dec.{leb}
use borrow.Author.Tests.{leb-true, leb-false}
use Rattle.model.specs.Device.{ceil}

-- u rises to v in m places, and to r in k more
pub data Steady (u v r m k : ℕ) : Type 0 where
  slow : u ≤ v → v ≤ r → v ≤ u + m → r ≤ v + k → Steady u v r m k
  fast : u + m ≤ v → v + k ≤ r → Steady u v r m k

-- numbers at one stride do, divided by 256 and rounded up
pub steady : (x t m k : ℕ) → Steady (ceil x 256) (ceil (x + m * t) 256) (ceil (x + (m + k) * t) 256) m k
steady x t m k = go (leb t 256) refl
  where
    go : (b : Bool) → leb t 256 ≡ b → Steady (ceil x 256) (ceil (x + m * t) 256) (ceil (x + (m + k) * t) 256) m k
    go true e =
        let i : m * t ≤ m * 256 = mul-le-mul_left m (leb-true t 256 e) in
        let j : k * t ≤ k * 256 = mul-le-mul_left k (leb-true t 256 e) in
        slow (omega arith) (omega arith) (omega arith) (omega arith)
    go false e =
        let h : 256 ≤ t = omega (arith, leb-false t 256 e) in
        let i : m * 256 ≤ m * t = mul-le-mul_left m h in
        let j : k * 256 ≤ k * t = mul-le-mul_left k h in
        fast (omega arith) (omega arith)

-- the least and the most intercept, plus 256, that suit place p, to which a slope rises by u; the last place is h
abbrev pub least : (g p u : ℕ) → ℕ
least g p u = (max (p - g) 0 + 256) - u

abbrev pub most : (g h p u : ℕ) → ℕ
most g h p u = (min (p + g) h + 256) - u

-- between two places the least is at most the greater of theirs
pub least_between : (g p m k u v r : ℕ) → Steady u v r m k → least g (p + m) v ≤ max (least g p u) (least g (p + (m + k)) r)
least_between g p m k u v r (fast c d) =
    let z : least g (p + m) v ≤ least g p u = omega arith in
    le_trans z (le-max_left _ _)
least_between g p m k u v r (slow a b c d) = go (leb g (p + m)) refl
  where
    go : (t : Bool) → leb g (p + m) ≡ t → least g (p + m) v ≤ max (least g p u) (least g (p + (m + k)) r)
    go true e =
        let z : least g (p + m) v ≤ least g (p + (m + k)) r = omega (arith, leb-true g (p + m) e) in
        le_trans z (le-max_right _ _)
    go false e =
        let z : least g (p + m) v ≤ least g p u = omega (arith, leb-false g (p + m) e) in
        le_trans z (le-max_left _ _)

-- and the most at least the smaller
pub most_between : (g h p m k u v r : ℕ) → Steady u v r m k → min (most g h p u) (most g h (p + (m + k)) r) ≤ most g h (p + m) v
most_between g h p m k u v r (fast c d) =
    let z : most g h (p + (m + k)) r ≤ most g h (p + m) v = omega arith in
    le_trans (min-le_right _ _) z
most_between g h p m k u v r (slow a b c d) = go (leb (p + m + g) h) refl
  where
    go : (t : Bool) → leb (p + m + g) h ≡ t → min (most g h p u) (most g h (p + (m + k)) r) ≤ most g h (p + m) v
    go true e =
        let z : most g h p u ≤ most g h (p + m) v = omega (arith, leb-true (p + m + g) h e) in
        le_trans (min-le_left _ _) z
    go false e =
        let z : most g h (p + (m + k)) r ≤ most g h (p + m) v = omega (arith, leb-false (p + m + g) h e) in
        le_trans (min-le_right _ _) z
