-- The rise by the word, its sum with the intercept, and whether that is a page. Assumes nothing.
use mathlib.Core.Path.{◌≡◌, refl}
use mathlib.Core.Bool.{true, false, false≢true}
use mathlib.Core.Option.{none, some}
use Prim.Native.Nat.{ℕ, ◌+◌, ◌-◌, ◌*◌, ◌/◌, ◌%◌, ◌≤◌, ◌<◌}
use native.Mathlib.Omega.{arith}
use native.Mathlib.Nat.{mul-le-mul}
use lib.IntN.{ℤ, pos, negsuc, nat_abs}
use lib.Signed.{le_z, lt_z}
use borrow.Author.Tests.{leb-false}
use Rattle.model.specs.Record.{kind_of, rise}
use Rattle.record.specs.Read.{existing}
use Rattle.record.proofs.Words.{kind-zero, kind_even, kind_odd}

module _ (w o : ℕ) where
  pub rise-single : w ≡ 0 → 0 ≡ rise (kind_of w) o
  unfolding rise
  rise-single h = rw (kind-zero w h)

  pub rise-strided : (w ≡ 0 → ⊥) → w % 2 ≡ 0 → (o + (w / 2 - 1)) / (w / 2) ≡ rise (kind_of w) o
  unfolding rise
  rise-strided h k = rw (kind_even w h (λ e. omega arith))

  pub rise_sloped : (w % 2 ≡ 0 → ⊥) → (w / 2 * o + 255) / 256 ≡ rise (kind_of w) o
  unfolding rise
  rise_sloped h = rw (kind_odd w (omega arith))

pub slope-small : (a o : ℕ) → a ≤ 256 → o < 256 → a * o ≤ 65280
slope-small a o h k = let m : o ≤ 255 = omega arith in omega (arith, mul-le-mul h m)

-- a page or none, by the sign and the number of pages
pub page_negative : (z : ℤ) (n : ℕ) → le_z (pos 0) z ≡ false → none ≡ existing n z
unfolding existing
page_negative (pos p) n h = absurd (let k : ⊥ = omega (arith, leb-false 0 p h) in k)
page_negative (negsuc p) n h = refl

pub page-inside : (z : ℤ) (n : ℕ) → le_z (pos 0) z ≡ true → lt_z z (pos n) ≡ true → some (nat_abs z) ≡ existing n z
unfolding existing
page-inside (pos p) n h k = rw (k, existing)
page-inside (negsuc p) n h k = absurd (false≢true h)

pub page-beyond : (z : ℤ) (n : ℕ) → lt_z z (pos n) ≡ false → none ≡ existing n z
unfolding existing
page-beyond (pos p) n k = rw (k, existing)
page-beyond (negsuc p) n k = refl
