-- The number of an intercept: by where it lies; and the page that a number stands for is the predicted one, if it exists. Assumes nothing.
use mathlib.Core.Path.{◌≡◌, refl}
use mathlib.Core.Bool.{Bool, true, false, cond}
use mathlib.Core.Option.{Option, none, some}
use Prim.Native.Nat.{ℕ, suc, ◌+◌, ◌-◌, ◌≤◌, ◌<◌, min}
use native.Mathlib.Omega.{arith}
use lib.Dec.{ltb}
use lib.IntN.{ℤ, pos, negsuc, nat_abs, ◌+ℤ◌}
use mir.Syntax.{w32}
use mir.Val.{SFits, to_z, of_z}
use mir.Facts.{to_z-of_z}
use Rattle.std.specs.Int.{int_min, int_max}
use Rattle.std.proofs.lemmas.Int.{ints, clamps}
use borrow.Author.Tests.{ltb-true, ltb-false, lt-ltb, le-ltb}
use Rattle.record.specs.Read.{existing}
use Rattle.forecast.specs.Forecast.{page_zero, near}

pub near_most : (z : ℤ) → near z ≤ 1049601
unfolding near
near_most (pos p) = omega arith
near_most (negsuc m) = omega arith

pub near_some : (z : ℤ) → 0 < near z
unfolding near
near_some (pos p) = omega arith
near_some (negsuc m) = omega arith

-- an intercept, moved between the two bounds, and counted from the number of page 0
near_sum : (z y : ℤ) → y ≡ int_max (negsuc 1023) (int_min z (pos 1048576)) → y +ℤ pos 1025 ≡ pos (near z)
unfolding near
near_sum (pos p) y e = omega (arith, ints, clamps)
near_sum (negsuc m) y e = omega (arith, ints, clamps)

near_fits : (z y : ℤ) → y ≡ int_max (negsuc 1023) (int_min z (pos 1048576)) → SFits w32 y
near_fits z (pos p) e = record { sfits = omega (arith, ints, clamps) }
near_fits z (negsuc m) e = record { sfits = omega (arith, ints, clamps) }

-- an intercept of 32 bits, read back from them
pub near_is : (z y : ℤ) → SFits w32 z → y ≡ int_max (negsuc 1023) (int_min (to_z w32 (of_z w32 z)) (pos 1048576))
    → nat_abs (to_z w32 (of_z w32 (to_z w32 (of_z w32 y) +ℤ pos 1025))) ≡ near z
near_is z y f h =
    let e : y ≡ int_max (negsuc 1023) (int_min z (pos 1048576)) = rw (to_z-of_z f) at h in
    let whole : SFits w32 (pos (near z)) = record { sfits = omega (arith, near_most z) } in
    rw (to_z-of_z (near_fits z y e), near_sum z y e, to_z-of_z whole)

-- A record's number at an offset, b more than its intercept's: below page 0's, or as many pages above it as the device has, the
-- predicted page doesn't exist; between them it is the page that the number says.
there : (p n : ℕ) → p < n → existing n (pos p) ≡ some p
unfolding existing
there p n h = rw (lt-ltb p n h, existing)

far : (p n : ℕ) → n ≤ p → existing n (pos p) ≡ none
unfolding existing
far p n h = rw (le-ltb p n h, existing)

below : (m n : ℕ) → existing n (negsuc m) ≡ none
unfolding existing
below m n = refl

module _ (b n : ℕ) (small : b < 1024) (few : n ≤ 1048576) where
  -- of an intercept below 0, and what is added
  negative : (m : ℕ) (P : Option ℕ → Type 0) → (b < suc m → P none) → (suc m ≤ b → P (existing n (pos (b - suc m)))) → P (existing n (negsuc m +ℤ pos b))
  negative m P lower upper = go (ltb b (suc m)) refl
    where
      go : (t : Bool) → ltb b (suc m) ≡ t → P (existing n (cond t (negsuc (suc m - suc b)) (pos (b - suc m))))
      go true e = rw (below (suc m - suc b) n) (lower (ltb-true b (suc m) e))
      go false e = upper (ltb-false b (suc m) e)

  pub near-low : (z : ℤ) → near z + b < page_zero → existing n (z +ℤ pos b) ≡ none
  unfolding near
  near-low (pos p) h = absurd (omega arith)
  near-low (negsuc m) h = negative m (λ x. x ≡ none) (λ l. refl) (λ l. absurd (omega arith))

  pub near_far : (z : ℤ) → page_zero ≤ near z + b → n ≤ near z + b - page_zero → existing n (z +ℤ pos b) ≡ none
  unfolding near
  near_far (pos p) h k = far (p + b) n (omega arith)
  near_far (negsuc m) h k = negative m (λ x. x ≡ none) (λ l. refl) (λ l. far (b - suc m) n (omega arith))

  pub near_there : (z : ℤ) → page_zero ≤ near z + b → near z + b - page_zero < n → existing n (z +ℤ pos b) ≡ some (near z + b - page_zero)
  unfolding near
  near_there (pos p) h k = let e : p + b ≡ page_zero + min p 1048576 + b - page_zero = omega arith in rw (← e) (there (p + b) n (omega arith))
  near_there (negsuc m) h k =
      negative m (λ x. x ≡ some (page_zero - min (suc m) 1024 + b - page_zero)) (λ l. absurd (omega arith))
      (λ l. let e : b - suc m ≡ page_zero - min (suc m) 1024 + b - page_zero = omega arith in rw (← e) (there (b - suc m) n (omega arith)))
