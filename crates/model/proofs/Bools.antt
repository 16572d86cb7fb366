-- Tests joined by `&&`, `||` and `all`, taken apart and put together. Assumes nothing.
use mathlib.Core.Path.{◌≡◌, refl, sym}
use mathlib.Core.List.{List, [], ◌∷◌, ◌++◌}
use mathlib.Core.Bool.{true≢false, Bool, true, false, ◌&&◌, ◌||◌}
use Rattle.model.specs.Lists.{all}

pub and_l : (a b : Bool) → (a && b) ≡ true → a ≡ true
and_l true b e = refl
and_l false b e = e

pub and_r : (a b : Bool) → (a && b) ≡ true → b ≡ true
and_r true b e = e
and_r false b e = absurd (true≢false (sym e))

pub and_i : (a b : Bool) → a ≡ true → b ≡ true → (a && b) ≡ true
and_i true b e f = f
and_i false b e f = e

pub or_none : (a b : Bool) → (a || b) ≡ false → (a ≡ false) × (b ≡ false)
or_none true b e = absurd (true≢false e)
or_none false b e = (refl, e)

pub neither : (a b : Bool) → a ≡ false → b ≡ false → (a || b) ≡ false
neither true b e f = e
neither false b e f = f

-- two tests that imply each other are equal
pub iff_bool : (a b : Bool) → (a ≡ true → b ≡ true) → (b ≡ true → a ≡ true) → a ≡ b
iff_bool true b f g = sym (f refl)
iff_bool false true f g = g refl
iff_bool false false f g = refl

-- a test that can't hold fails
pub is_false : (a : Bool) → (a ≡ true → ⊥) → a ≡ false
is_false true f = absurd (f refl)
is_false false f = refl

module _ {A : Type 0} (t : A → Bool) where
  pub all_head : (x : A) (l : List A) → all t (x ∷ l) ≡ true → t x ≡ true
  unfolding all
  all_head x l h = and_l (t x) (all t l) h

  pub all_tail : (x : A) (l : List A) → all t (x ∷ l) ≡ true → all t l ≡ true
  unfolding all
  all_tail x l h = and_r (t x) (all t l) h

  pub all_cons : (x : A) (l : List A) → t x ≡ true → all t l ≡ true → all t (x ∷ l) ≡ true
  unfolding all
  all_cons x l h k = and_i (t x) (all t l) h k

  pub all_left : (l m : List A) → all t (l ++ m) ≡ true → all t l ≡ true
  unfolding all
  all_left [] m h = refl
  all_left (x ∷ l) m h = all_cons x l (all_head x (l ++ m) h) (all_left l m (all_tail x (l ++ m) h))

  pub all_right : (l m : List A) → all t (l ++ m) ≡ true → all t m ≡ true
  all_right [] m h = h
  all_right (x ∷ l) m h = all_right l m (all_tail x (l ++ m) h)
