-- One bit of a number set or cleared: it is then so, every other bit stays, and a number of n bits has no more. Assumes nothing.
use mathlib.Core.Path.{◌≡◌, refl, sym, ◌∙◌, ap}
use mathlib.Core.Logic.{◌≢◌}
use mathlib.Core.Bool.{Bool, true, false}
use Prim.Native.Nat.{ℕ, zero, suc, ◌+◌, ◌-◌, ◌/◌, ◌%◌, ◌^◌, ◌≤◌, ◌<◌}
use native.Mathlib.Omega.{arith}
use native.Mathlib.Nat.{pow-succ', div-eq_of_lt, div-div-eq-div-mul}
use lib.Dec.{ltb, eqb}
use borrow.Author.Tests.{ltb-true, ltb-false, eqb-true, eqb-false, eq-eqb, ne_eqb}
use Rattle.model.specs.Marks.{has_bit, set_bit, clear_bit}

-- a bit by the number that it is
bit_one : (b v : ℕ) → has_bit b v ≡ true → b / v % 2 ≡ 1
unfolding has_bit
bit_one b v e = eqb-true (b / v % 2) 1 e

bit-zero : (b v : ℕ) → has_bit b v ≡ false → b / v % 2 ≡ 0
unfolding has_bit
bit-zero b v e = omega (arith, eqb-false (b / v % 2) 1 e)

one_bit : (b v : ℕ) → b / v % 2 ≡ 1 → has_bit b v ≡ true
unfolding has_bit
one_bit b v e = eq-eqb (b / v % 2) 1 e

zero_bit : (b v : ℕ) → b / v % 2 ≡ 0 → has_bit b v ≡ false
unfolding has_bit
zero_bit b v e = ne_eqb (b / v % 2) 1 (λ q. absurd (omega arith))

-- a number with a bit is no less than what the bit counts
pub bit-fits : (b v : ℕ) → has_bit b v ≡ true → v ≤ b
bit-fits b v e = go (ltb b v) refl
  where
    go : (t : Bool) → ltb b v ≡ t → v ≤ b
    go true q = absurd (omega (arith, bit_one b v e, div-eq_of_lt (ltb-true b v q)))
    go false q = ltb-false b v q

-- the bit that counts twice as much is the half's
bit-half : (b i : ℕ) → has_bit b (2 ^ suc i) ≡ has_bit (b / 2) (2 ^ i)
unfolding has_bit
bit-half b i = ap (λ (q : ℕ). eqb (q % 2) 1) (ap (λ (v : ℕ). b / v) (pow-succ' 2 i) ∙ sym (div-div-eq-div-mul b 2 (2 ^ i)))

-- the lowest bit is the remainder
bit-low : (b c : ℕ) → b % 2 ≡ c % 2 → has_bit b (2 ^ 0) ≡ has_bit c (2 ^ 0)
unfolding has_bit
bit-low b c e = ap (λ (q : ℕ). eqb q 1) (let z : b / 1 % 2 ≡ c / 1 % 2 = omega arith in z)

-- A bit that is set stays ..
pub set_on : (b v : ℕ) → has_bit b v ≡ true → set_bit b v ≡ b
unfolding set_bit
set_on b v e = rw (e, set_bit) refl

pub set_off : (b v : ℕ) → has_bit b v ≡ false → set_bit b v ≡ b + v
unfolding set_bit
set_off b v e = rw (e, set_bit) refl

-- .. and so does one that isn't where it is cleared.
pub clear_off : (b v : ℕ) → has_bit b v ≡ false → clear_bit b v ≡ b
unfolding clear_bit
clear_off b v e = rw (e, clear_bit) refl

pub clear_on : (b v : ℕ) → has_bit b v ≡ true → clear_bit b v ≡ b - v
unfolding clear_bit
clear_on b v e = rw (e, clear_bit) refl

-- A change of one bit to t: the lowest is then t and leaves the half; a higher one leaves the remainder and is one of the half.
pub record Bitwise (f : ℕ → ℕ → ℕ) (t : Bool) : Type 0 where
  pub here : (b : ℕ) → has_bit (f b (2 ^ 0)) (2 ^ 0) ≡ t
  pub above : (b : ℕ) → f b (2 ^ 0) / 2 ≡ b / 2
  pub lowest : (b i : ℕ) → f b (2 ^ suc i) % 2 ≡ b % 2
  pub half : (b i : ℕ) → f b (2 ^ suc i) / 2 ≡ f (b / 2) (2 ^ i)

pub set_bitwise : Bitwise set_bit true
set_bitwise = record {
  here = λ b. here b (has_bit b 1) refl;
  above = λ b. above b (has_bit b 1) refl;
  lowest = λ b i. lowest b i (has_bit b (2 ^ suc i)) refl;
  half = λ b i. half b i (has_bit b (2 ^ suc i)) refl;
}
  where
    here : (b : ℕ) (t : Bool) → has_bit b 1 ≡ t → has_bit (set_bit b 1) 1 ≡ true
    here b true e = rw (set_on b 1 e) e
    here b false e = rw (set_off b 1 e) (one_bit (b + 1) 1 (omega (arith, bit-zero b 1 e)))

    above : (b : ℕ) (t : Bool) → has_bit b 1 ≡ t → set_bit b 1 / 2 ≡ b / 2
    above b true e = ap (λ (c : ℕ). c / 2) (set_on b 1 e)
    above b false e = ap (λ (c : ℕ). c / 2) (set_off b 1 e) ∙ omega (arith, bit-zero b 1 e)

    lowest : (b i : ℕ) (t : Bool) → has_bit b (2 ^ suc i) ≡ t → set_bit b (2 ^ suc i) % 2 ≡ b % 2
    lowest b i true e = ap (λ (c : ℕ). c % 2) (set_on b (2 ^ suc i) e)
    lowest b i false e = ap (λ (c : ℕ). c % 2) (set_off b (2 ^ suc i) e) ∙ omega (arith, pow-succ' 2 i)

    half : (b i : ℕ) (t : Bool) → has_bit b (2 ^ suc i) ≡ t → set_bit b (2 ^ suc i) / 2 ≡ set_bit (b / 2) (2 ^ i)
    half b i true e = ap (λ (c : ℕ). c / 2) (set_on b (2 ^ suc i) e) ∙ sym (set_on (b / 2) (2 ^ i) (sym (bit-half b i) ∙ e))
    half b i false e =
        ap (λ (c : ℕ). c / 2) (set_off b (2 ^ suc i) e)
        ∙ (let z : (b + 2 ^ suc i) / 2 ≡ b / 2 + 2 ^ i = omega (arith, pow-succ' 2 i) in z)
        ∙ sym (set_off (b / 2) (2 ^ i) (sym (bit-half b i) ∙ e))

pub clear_bitwise : Bitwise clear_bit false
clear_bitwise = record {
  here = λ b. here b (has_bit b 1) refl;
  above = λ b. above b (has_bit b 1) refl;
  lowest = λ b i. lowest b i (has_bit b (2 ^ suc i)) refl;
  half = λ b i. half b i (has_bit b (2 ^ suc i)) refl;
}
  where
    here : (b : ℕ) (t : Bool) → has_bit b 1 ≡ t → has_bit (clear_bit b 1) 1 ≡ false
    here b true e = rw (clear_on b 1 e) (zero_bit (b - 1) 1 (omega (arith, bit_one b 1 e)))
    here b false e = rw (clear_off b 1 e) e

    above : (b : ℕ) (t : Bool) → has_bit b 1 ≡ t → clear_bit b 1 / 2 ≡ b / 2
    above b true e = ap (λ (c : ℕ). c / 2) (clear_on b 1 e) ∙ omega (arith, bit_one b 1 e)
    above b false e = ap (λ (c : ℕ). c / 2) (clear_off b 1 e)

    lowest : (b i : ℕ) (t : Bool) → has_bit b (2 ^ suc i) ≡ t → clear_bit b (2 ^ suc i) % 2 ≡ b % 2
    lowest b i true e = ap (λ (c : ℕ). c % 2) (clear_on b (2 ^ suc i) e) ∙ omega (arith, pow-succ' 2 i, bit-fits b (2 ^ suc i) e)
    lowest b i false e = ap (λ (c : ℕ). c % 2) (clear_off b (2 ^ suc i) e)

    half : (b i : ℕ) (t : Bool) → has_bit b (2 ^ suc i) ≡ t → clear_bit b (2 ^ suc i) / 2 ≡ clear_bit (b / 2) (2 ^ i)
    half b i true e =
        ap (λ (c : ℕ). c / 2) (clear_on b (2 ^ suc i) e)
        ∙ (let z : (b - 2 ^ suc i) / 2 ≡ b / 2 - 2 ^ i = omega (arith, pow-succ' 2 i, bit-fits b (2 ^ suc i) e) in z)
        ∙ sym (clear_on (b / 2) (2 ^ i) (sym (bit-half b i) ∙ e))
    half b i false e = ap (λ (c : ℕ). c / 2) (clear_off b (2 ^ suc i) e) ∙ sym (clear_off (b / 2) (2 ^ i) (sym (bit-half b i) ∙ e))

module _ (f : ℕ → ℕ → ℕ) (t : Bool) (w : Bitwise f t) where
  -- The bit is then t ..
  pub bit_here : (b i : ℕ) → has_bit (f b (2 ^ i)) (2 ^ i) ≡ t
  bit_here b zero = w.here b
  bit_here b (suc i) = bit-half (f b (2 ^ suc i)) i ∙ ap (λ (c : ℕ). has_bit c (2 ^ i)) (w.half b i) ∙ bit_here (b / 2) i

  -- .. and every other as it was.
  pub bit_other : (b i j : ℕ) → j ≢ i → has_bit (f b (2 ^ i)) (2 ^ j) ≡ has_bit b (2 ^ j)
  bit_other b zero zero n = absurd (n refl)
  bit_other b zero (suc j) n = bit-half (f b (2 ^ 0)) j ∙ ap (λ (c : ℕ). has_bit c (2 ^ j)) (w.above b) ∙ sym (bit-half b j)
  bit_other b (suc i) zero n = bit-low (f b (2 ^ suc i)) b (w.lowest b i)
  bit_other b (suc i) (suc j) n =
      bit-half (f b (2 ^ suc i)) j ∙ ap (λ (c : ℕ). has_bit c (2 ^ j)) (w.half b i) ∙ bit_other (b / 2) i j (λ e. n (ap suc e)) ∙ sym (bit-half b j)

  -- A number of n bits has no more.
  pub bits_within : (n b i : ℕ) → i < n → b < 2 ^ n → f b (2 ^ i) < 2 ^ n
  bits_within zero b i h k = absurd (omega arith)
  bits_within (suc n) b zero h k = omega (arith, w.above b, pow-succ' 2 n, k)
  bits_within (suc n) b (suc i) h k =
      omega (arith, bits_within n (b / 2) i (omega arith) (omega (arith, pow-succ' 2 n, k)), w.half b i, pow-succ' 2 n)
