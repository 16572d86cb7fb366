-- The kind that a word gives: 0, even above 0, odd. Assumes nothing.
use mathlib.Core.Path.{◌≡◌, refl, sym, ◌∙◌}
use mathlib.Core.Bool.{Bool, true, false}
use Prim.Native.Nat.{ℕ, ◌/◌, ◌%◌}
use native.Mathlib.Omega.{arith}
use lib.Dec.{eqb}
use borrow.Author.Tests.{eq-eqb, ne_eqb, eqb-true, eqb-false}
use Rattle.model.specs.Record.{single, accurate, approximate, kind_of, is_approximate}

pub kind-zero : (w : ℕ) → w ≡ 0 → kind_of w ≡ single
unfolding kind_of
kind-zero w h = rw (eq-eqb w 0 h, kind_of)

pub kind_even : (w : ℕ) → (w ≡ 0 → ⊥) → (w % 2 ≡ 1 → ⊥) → kind_of w ≡ accurate (w / 2)
unfolding kind_of
kind_even w h k =
    let e : w % 2 ≡ 0 = omega arith in
    rw (ne_eqb w 0 h, eq-eqb (w % 2) 0 e, kind_of)

pub kind_odd : (w : ℕ) → w % 2 ≡ 1 → kind_of w ≡ approximate (w / 2)
unfolding kind_of
kind_odd w h = rw (ne_eqb w 0 (λ e. omega arith), ne_eqb (w % 2) 0 (λ e. omega arith), kind_of)

-- an odd word is an approximate record's, and no other
pub odd_test : (w : ℕ) → eqb (w % 2) 1 ≡ is_approximate (kind_of w)
unfolding is_approximate
odd_test w = go (eqb (w % 2) 1) (eqb w 0) refl refl
  where
    go : (t z : Bool) → eqb (w % 2) 1 ≡ t → eqb w 0 ≡ z → t ≡ is_approximate (kind_of w)
    go true z e f = rw (kind_odd w (eqb-true _ _ e))
    go false true e f = rw (kind-zero w (eqb-true _ _ f))
    go false false e f = rw (kind_even w (eqb-false _ _ f) (eqb-false _ _ e))

pub odd_is : (w : ℕ) → w % 2 ≡ 1 → is_approximate (kind_of w) ≡ true
odd_is w h = sym (odd_test w) ∙ eq-eqb _ _ h

pub odd_of : (w : ℕ) → is_approximate (kind_of w) ≡ true → w % 2 ≡ 1
odd_of w h = eqb-true _ _ (odd_test w ∙ h)

pub even_of : (w : ℕ) → is_approximate (kind_of w) ≡ false → w % 2 ≡ 1 → ⊥
even_of w h = eqb-false _ _ (odd_test w ∙ h)
