-- Texts laid out one behind the other, and a number's text right-justified: one law for every width, with a sign or without. Assumes nothing.
use mathlib.Core.Path.{◌≡◌, refl, sym, ap, ◌∙◌}
use mathlib.Core.List.{List, [], ◌∷◌, ◌++◌}
use mathlib.Core.Bool.{Bool, true, false}
use Prim.Native.Nat.{ℕ, zero, suc, ◌+◌, ◌-◌, ◌≤◌}
use native.Mathlib.Omega.{arith}
use native.Mathlib.Numerals.{add-one}
use lib.ListN.{length, set, take, drop, replicate, length-append, length-replicate}
use Rattle.std.proofs.lemmas.List.{take-append-drop}
use borrow.Rule.Slice.PartMut.{put_mid}
use Rattle.model.specs.Lists.{store}
use Rattle.model.proofs.Lists.{length-store, store_nil}
use Rattle.octets.proofs.Stores.{store_one, store_then}
use Rattle.lines.specs.Printed.{signed, right, Laid}

-- what is stored inside a list takes the place of that part
store_inside : (s : List ℕ) (p : ℕ) (vs : List ℕ) → p + length vs ≤ length s → store s p vs ≡ take p s ++ (vs ++ drop (length vs) (drop p s))
unfolding store
store_inside s p [] h = store_nil s p ∙ sym (take-append-drop p s)
store_inside [] p (v ∷ vs) h = absurd (omega arith)
store_inside (x ∷ s) zero (v ∷ vs) h = ap (λ (l : List ℕ). v ∷ l) (store_inside s zero vs (omega arith))
store_inside (x ∷ s) (suc p) (v ∷ vs) h = ap (λ (l : List ℕ). x ∷ l) (store_inside s p (v ∷ vs) (omega arith))

-- a part is written over by a text
pub laid_part : (s ys text : List ℕ) (p n : ℕ) → ys ≡ text → n ≡ length text → p + n ≤ length s → Laid s (put_mid p (p + n - p) s ys) p (p + n) text
laid_part s ys text p n e k h =
    let m : p + n - p ≡ length text = omega arith in
    record { stored = rw (e, m) (sym (store_inside s p text (omega arith))); next = omega arith; inside = h }

module _ {s t : List ℕ} {p q : ℕ} where
  -- one text, and another behind it
  pub laid_then : {u : List ℕ} {r : ℕ} {x y : List ℕ} → Laid s t p q x → Laid t u q r y → Laid s u p r (x ++ y)
  laid_then {x = x} {y = y} a b =
      record {
        stored = b.stored ∙ rw (a.stored, a.next) (store_then s p x y);
        next = omega (arith, a.next, b.next, length-append x y);
        inside = omega (arith, b.inside, ap length a.stored, length-store s p x);
      }

  -- the same text, said otherwise
  pub laid_as : {x y : List ℕ} → x ≡ y → Laid s t p q x → Laid s t p q y
  laid_as e a = rw e at a

-- one character
pub laid_one : (s : List ℕ) (p v : ℕ) → p + 1 ≤ length s → Laid s (set s p v) p (p + 1) (v ∷ [])
laid_one s p v h = record { stored = store_one s p v; next = refl; inside = h }

-- the place behind blanks
pub blanks_next : {s t : List ℕ} {p q : ℕ} (n : ℕ) → Laid s t p q (replicate n 32) → q ≡ p + n
blanks_next n a = omega (arith, a.next, length-replicate {A = ℕ} n 32)

-- "right-justified": blanks up to the width, the sign if there is one, the digits
module _ {s t u : List ℕ} {p q r : ℕ} (width : ℕ) (digits : List ℕ) where
  -- without a sign
  pub laid_unsigned : Laid s t p q (replicate (width - length digits) 32) → Laid t u q r digits → Laid s u p r (right width (signed false digits))
  unfolding right signed
  laid_unsigned a b = laid_then a b

  -- with it
  pub laid_signed : {v : List ℕ} {o : ℕ} → Laid s t p q (replicate (width - (length digits + 1)) 32) → Laid t u q r (45 ∷ []) → Laid u v r o digits → Laid s v p o (right width (signed true digits))
  unfolding right signed
  laid_signed a b d = laid_then (rw (add-one (length digits)) at a) (laid_then b d)

-- in no width a text stands alone
pub right_none : (text : List ℕ) → right 0 text ≡ text
unfolding right
right_none text = let e : 0 - length text ≡ 0 = omega arith in rw e

-- a text of at most m characters, right-justified in at most m columns, has at most m
pub right-short : (width m : ℕ) (text : List ℕ) → width ≤ m → length text ≤ m → length (right width text) ≤ m
unfolding right
right-short width m text h k = omega (arith, length-append (replicate (width - length text) 32) text, length-replicate {A = ℕ} (width - length text) 32)

-- a sign is one character
pub signed-short : (negative : Bool) (digits : List ℕ) → length (signed negative digits) ≤ 1 + length digits
unfolding signed
signed-short true digits = omega arith
signed-short false digits = omega arith
