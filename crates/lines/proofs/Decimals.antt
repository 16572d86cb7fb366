-- The fewest decimal digits that hold a number are its decimal text. Assumes nothing.
use mathlib.Core.Path.{◌≡◌, refl, ap, ◌∙◌}
use mathlib.Core.List.{List}
use mathlib.Core.Bool.{Bool, true, false}
use Prim.Native.Nat.{ℕ, zero, suc, ◌+◌, ◌-◌, ◌/◌, ◌%◌, ◌^◌, ◌≤◌, ◌<◌}
use native.Mathlib.Omega.{arith}
use native.Mathlib.Nat.{pow-succ', one-le-pow, pow-le-pow_right}
use borrow.Author.Tests.{ltb-true, ltb-false, lt-ltb, leb-true, leb-false}
use lib.Dec.{ltb, leb}
use Rattle.io.specs.Digits.{last_digits, hex_digit_ascii, IsDigitCount}
use lib.ListN.{length}
use Rattle.lines.specs.Printed.{decimal_in, decimal, signed, right, Laid}
use Rattle.lines.proofs.Texts.{laid_as, right-short, signed-short}

-- a decimal digit's character
digit : (d : ℕ) → d < 10 → hex_digit_ascii d ≡ 48 + d
digit d h = rw (lt-ltb d 10 h)

-- a number below 10 has one digit
one_digit : (n k : ℕ) → n < 10 → IsDigitCount 10 1 n k → k ≡ 1
one_digit n zero h f = absurd (omega arith)
one_digit n (suc zero) h f = refl
one_digit n (suc (suc k)) h f =
    let e : suc (suc k) - 1 ≡ suc k = omega arith in
    let low : 10 ^ suc k ≤ n = rw e at (f.2 (omega arith)) in
    absurd (omega (arith, pow-succ' 10 k, one-le-pow k 10 (omega arith)))

-- any other number has one digit more than its tenth
one_less : (n k : ℕ) → 10 ≤ n → IsDigitCount 10 1 n (suc k) → IsDigitCount 10 1 (n / 10) k
one_less n zero h f = absurd (omega (arith, pow-succ' 10 0))
one_less n (suc k) h f =
    let e : suc (suc k) - 1 ≡ suc k = omega arith in
    let d : suc k - 1 ≡ k = omega arith in
    let low : 10 ^ suc k ≤ n = rw e at (f.2 (omega arith)) in
    (omega arith, omega (arith, f.1, pow-succ' 10 (suc k)), λ m. rw d (omega (arith, pow-succ' 10 k)))

-- in a room of more than n digits
digits_in : (room n k : ℕ) → n < room → IsDigitCount 10 1 n k → last_digits 10 k n ≡ decimal_in room n
unfolding decimal_in
digits_in zero n k h f = absurd (omega arith)
digits_in (suc room) n zero h f = absurd (omega arith)
digits_in (suc room) n (suc k) h f = go (ltb n 10) refl (digits_in room (n / 10) k)
  where
    last : hex_digit_ascii (n % 10) ≡ 48 + n % 10
    last = digit (n % 10) (omega arith)

    go : (t : Bool) → ltb n 10 ≡ t → (n / 10 < room → IsDigitCount 10 1 (n / 10) k → last_digits 10 k (n / 10) ≡ decimal_in room (n / 10)) → last_digits 10 (suc k) n ≡ decimal_in (suc room) n
    go true e ih =
        let small : n < 10 = ltb-true n 10 e in
        let none : k ≡ 0 = omega (arith, one_digit n (suc k) small f) in
        let same : n % 10 ≡ n = omega arith in
        rw (e, decimal_in) (rw (none, last, same))
    go false e ih =
        let large : 10 ≤ n = ltb-false n 10 e in
        rw (e, decimal_in) (rw (ih (omega arith) (one_less n k large f), last))

-- the fewest digits that hold n are n in decimal
pub digits_decimal : (n k : ℕ) → IsDigitCount 10 1 n k → last_digits 10 k n ≡ decimal n
unfolding decimal
digits_decimal n k f = digits_in (suc n) n k (omega arith) f

-- a number of 32 bits has at most 10 digits
pub ten-digits : (n k : ℕ) → n < 4294967296 → IsDigitCount 10 1 n k → k ≤ 10
ten-digits n k h f = go (leb k 10) refl
  where
    go : (t : Bool) → leb k 10 ≡ t → k ≤ 10
    go true e = leb-true k 10 e
    go false e =
        let long : 10 ≤ k - 1 = omega (arith, leb-false k 10 e) in
        let top : 10 ^ 10 ≤ 10 ^ (k - 1) = pow-le-pow_right (omega arith) long in
        absurd (omega (arith, f.2 (omega arith)))

-- a number laid out by the fewest digits that hold it, in at most 11 columns with its sign
pub laid_number : {s t : List ℕ} {p q : ℕ} (width : ℕ) (negative : Bool) (n k : ℕ) (text : List ℕ)
    → width ≤ 11 → n < 4294967296 → IsDigitCount 10 1 n k → k ≡ length text → text ≡ last_digits 10 k n → Laid s t p q (right width (signed negative text))
    → Laid s t p q (right width (signed negative (decimal n))) × (q ≤ p + 11)
laid_number width negative n k text w h f e d laid =
    let short : length (right width (signed negative text)) ≤ 11 = right-short width 11 (signed negative text) w (omega (arith, signed-short negative text, ten-digits n k h f)) in
    (laid_as (ap (λ (l : List ℕ). right width (signed negative l)) (d ∙ digits_decimal n k f)) laid, omega (arith, laid.next))
