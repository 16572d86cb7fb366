-- The number in a field, character by character: blanks are passed, then each digit goes behind those before it. Assumes nothing.
use mathlib.Core.Path.{◌≡◌, refl, ap, ◌∙◌}
use mathlib.Core.Bool.{Bool, true, false, not, cond}
use mathlib.Core.List.{List, [], ◌∷◌}
use mathlib.Core.Option.{none, some}
use Prim.Native.Nat.{ℕ, suc, ◌+◌, ◌-◌, ◌*◌, ◌^◌, ◌≤◌, ◌<◌}
use native.Mathlib.Omega.{arith}
use native.Mathlib.Numerals.{add-one}
use native.Mathlib.Nat.{pow-succ', pow-le-pow_right}
use lib.Dec.{eqb, ltb}
use borrow.Author.Tests.{ltb-true, ltb-false}
use lib.ListN.{length, get_or, drop, drop_of_length-le}
use lib.Seq.{drop-cons}
use Rattle.std.specs.Prelude.{Some, None, position}
use Rattle.std.specs.List.{position_or_len}
use Rattle.std.proofs.lemmas.Bool.Decides.{nat_tests}
use Rattle.lines.specs.Script.{is_digit, digits_from, number_in}
use Rattle.lines.specs.Reading.{other}

-- the characters from place i on
module _ (l : List ℕ) (i : ℕ) where
  -- no digit is left
  pub digits-end : (v : ℕ) → length l ≤ i → digits_from v (drop i l) ≡ some v
  unfolding digits_from
  digits-end v h = rw (drop_of_length-le l h)

  -- one more digit
  pub digit-read : (v : ℕ) → i < length l → is_digit (get_or l i 0) ≡ true → digits_from v (drop i l) ≡ digits_from (10 * v + (get_or l i 0 - 48)) (drop (i + 1) l)
  unfolding digits_from
  digit-read v h e = rw (add-one i, drop-cons l i 0 h) (rw (e, digits_from))

  -- another character
  pub no_digit : (v : ℕ) → i < length l → is_digit (get_or l i 0) ≡ false → digits_from v (drop i l) ≡ none
  unfolding digits_from
  no_digit v h e = rw (drop-cons l i 0 h) (rw (e, digits_from))

-- a field of blanks holds no number
pub blanks_only : (l : List ℕ) → length l ≤ position_or_len other l → number_in l ≡ none
unfolding number_in
blanks_only [] h = refl
blanks_only (c ∷ l) h = go (eqb c 32) refl (blanks_only l)
  where
    go : (t : Bool) → eqb c 32 ≡ t → (length l ≤ position_or_len other l → number_in l ≡ none) → number_in (c ∷ l) ≡ none
    go true e ih = rw (e, number_in) (ih (let k : suc (length l) ≤ cond (not (not true)) (1 + position_or_len other l) 0 = rw e at h in omega arith))
    go false e ih = absurd (let k : suc (length l) ≤ cond (not (not false)) (1 + position_or_len other l) 0 = rw e at h in omega arith)

-- behind the blanks stand digits
pub digits-begin : (l : List ℕ) → position_or_len other l < length l → number_in l ≡ digits_from 0 (drop (position_or_len other l) l)
unfolding number_in
digits-begin [] h = absurd (omega arith)
digits-begin (c ∷ l) h = go (eqb c 32) refl (digits-begin l)
  where
    go : (t : Bool) → eqb c 32 ≡ t → (position_or_len other l < length l → number_in l ≡ digits_from 0 (drop (position_or_len other l) l)) → number_in (c ∷ l) ≡ digits_from 0 (drop (position_or_len other (c ∷ l)) (c ∷ l))
    go true e ih = rw (e, number_in) (ih (let k : cond (not (not true)) (1 + position_or_len other l) 0 < suc (length l) = rw e at h in omega arith) ∙ ap (λ (n : ℕ). digits_from 0 (drop n (c ∷ l))) (let z : suc (position_or_len other l) ≡ 1 + position_or_len other l = omega arith in z))
    go false e ih = rw (e, number_in)

-- the same, as the code finds the place
pub first-found : (l : List ℕ) (i : ℕ) → Some i ≡ position other l → number_in l ≡ digits_from 0 (drop i l)
first-found l i h = go (ltb (position_or_len other l) (length l)) refl h
  where
    go : (t : Bool) → ltb (position_or_len other l) (length l) ≡ t → Some i ≡ cond t (Some (position_or_len other l)) None → number_in l ≡ digits_from 0 (drop i l)
    go true e h = let k : position_or_len other l ≡ i = cc in digits-begin l (ltb-true _ _ e) ∙ ap (λ (n : ℕ). digits_from 0 (drop n l)) k
    go false e h = let z : ◌≡◌ {A = ℕ} 0 1 = cc in absurd (omega arith)

pub none_found : (l : List ℕ) → None ≡ position other l → number_in l ≡ none
none_found l h = go (ltb (position_or_len other l) (length l)) refl h
  where
    go : (t : Bool) → ltb (position_or_len other l) (length l) ≡ t → None ≡ cond t (Some (position_or_len other l)) None → number_in l ≡ none
    go true e h = let z : ◌≡◌ {A = ℕ} 0 1 = cc in absurd (omega arith)
    go false e h = blanks_only l (ltb-false _ _ e)

-- a digit's value
pub digit-value : (c : ℕ) → is_digit c ≡ true → c - 48 ≤ 9
unfolding is_digit
digit-value c h = grind (arith, nat_tests)

-- a number of i digits that fits 32 bits
pub record Small (v i : ℕ) : Type 0 where
  pub power : v < 10 ^ i
  pub bits : v < 4294967296

-- a number of at most 8 digits, and one digit more
pub one_more_lem : (v i d : ℕ) → v < 10 ^ i → d ≤ 9 → i + 1 ≤ 9 → Small (10 * v + d) (i + 1)
one_more_lem v i d h k short =
    let e : 10 ^ (i + 1) ≡ 10 * 10 ^ i = rw (add-one i) (pow-succ' 10 i) in
    let top : 10 ^ (i + 1) ≤ 10 ^ 9 = pow-le-pow_right (omega arith) short in
    record { power = omega arith; bits = omega arith }
