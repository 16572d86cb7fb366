-- Laws of the first and the last part of a list: membership, order, places. Assumes nothing.
use mathlib.Core.Path.{◌≡◌, refl, subst}
use mathlib.Core.List.{List, [], ◌∷◌, ◌++◌}
use mathlib.Core.Logic.{◌⊎◌, inl, inr}
use mathlib.Core.Bool.{true, false}
use Prim.Native.Nat.{ℕ, zero, suc, ◌-◌, ◌≤◌, ◌<◌}
use native.Mathlib.Omega.{arith}
use lib.Dec.{ltb}
use lib.ListN.{length, get_or, take, drop, take-append-drop}
use lib.Seq.{get_or-take, length-take-le}
use borrow.Author.Tests.{ltb-true}
use Rattle.model.specs.Lists.{all, elem, last_of}
use Rattle.model.proofs.Bools.{is_false, all_head, all_tail}
use Rattle.model.proofs.Lists.{Asc, end, next, asc_elem, elem_cons, elem_here, elem_there, elem-get_or, no_elem}

-- every number of the list is below n
abbrev pub Below : ℕ → List ℕ → Type 0
Below n l = (x : ℕ) → elem x l ≡ true → x < n

-- the test and the fact
pub all_below : (n : ℕ) (l : List ℕ) → all (λ x. ltb x n) l ≡ true → Below n l
all_below n [] h x e = no_elem x e
all_below n (y ∷ l) h x e = go (elem_cons x y l e) (all_below n l (all_tail (λ x. ltb x n) y l h) x)
  where
    go : (x ≡ y) ⊎ (elem x l ≡ true) → (elem x l ≡ true → x < n) → x < n
    go (inl q) ih = omega (arith, ltb-true y n (all_head (λ x. ltb x n) y l h))
    go (inr q) ih = ih q

-- taking n of a list with x in front takes x
pub take_pred : {A : Type 0} (n : ℕ) (x : A) (l : List A) → 1 ≤ n → take n (x ∷ l) ≡ x ∷ take (n - 1) l
take_pred zero x l h = absurd (omega arith)
take_pred (suc n) x l h = let e : suc n - 1 ≡ n = omega arith in rw e

-- dropping n of a list with x in front drops x
pub drop_pred : {A : Type 0} (n : ℕ) (x : A) (l : List A) → 1 ≤ n → drop n (x ∷ l) ≡ drop (n - 1) l
drop_pred zero x l h = absurd (omega arith)
drop_pred (suc n) x l h = let e : suc n - 1 ≡ n = omega arith in rw e

-- the number at a place before n is one of the first n
pub elem-take : (l : List ℕ) (n i : ℕ) → i < n → n ≤ length l → elem (get_or l i 0) (take n l) ≡ true
elem-take l n i h k = subst (λ (w : ℕ). elem w (take n l) ≡ true) (get_or-take n l i 0 h)
    (elem-get_or (take n l) i (rw (length-take-le n l k) h))

-- the last of the first n numbers behind x stands at place n
pub last_take : (n x : ℕ) (l : List ℕ) → n ≤ length l → last_of x (take n l) ≡ get_or (x ∷ l) n 0
unfolding last_of
last_take zero x l h = refl
last_take (suc n) x [] h = absurd (omega arith)
last_take (suc n) x (y ∷ l) h = last_take n y l (omega arith)

elem-left : (o : ℕ) (a b : List ℕ) → elem o a ≡ true → elem o (a ++ b) ≡ true
elem-left o [] b h = no_elem o h
elem-left o (x ∷ a) b h = go (elem_cons o x a h) (λ q. elem-left o a b q)
  where
    go : (o ≡ x) ⊎ (elem o a ≡ true) → (elem o a ≡ true → elem o (a ++ b) ≡ true) → elem o (x ∷ a ++ b) ≡ true
    go (inl q) ih = rw q (elem_here x (a ++ b))
    go (inr q) ih = elem_there o x (a ++ b) (ih q)

elem-right : (o : ℕ) (a b : List ℕ) → elem o b ≡ true → elem o (a ++ b) ≡ true
elem-right o [] b h = h
elem-right o (x ∷ a) b h = elem_there o x (a ++ b) (elem-right o a b h)

-- what is among the first is in the list
pub elem_first : (o n : ℕ) (l : List ℕ) → elem o (take n l) ≡ true → elem o l ≡ true
elem_first o n l h = rw (take-append-drop n l) at (elem-left o (take n l) (drop n l) h)

-- what is among the rest is in the list
pub elem-rest : (o n : ℕ) (l : List ℕ) → elem o (drop n l) ≡ true → elem o l ≡ true
elem-rest o n l h = rw (take-append-drop n l) at (elem-right o (take n l) (drop n l) h)

asc_apart : {x : ℕ} (a b : List ℕ) → Asc x (a ++ b) → (o : ℕ) → elem o a ≡ true → elem o b ≡ true → ⊥
asc_apart [] b c o h k = no_elem o h
asc_apart (y ∷ a) b (next p c) o h k = go (elem_cons o y a h) (λ q. asc_apart a b c o q k)
  where
    go : (o ≡ y) ⊎ (elem o a ≡ true) → (elem o a ≡ true → ⊥) → ⊥
    go (inl q) ih = omega (arith, asc_elem c o (elem-right o a b k))
    go (inr q) ih = ih q

-- no number stands in both parts of an ascending list
pub first_only : {x : ℕ} (o n : ℕ) (l : List ℕ) → Asc x l → elem o (take n l) ≡ true → elem o (drop n l) ≡ false
first_only {x} o n l a h = is_false _ (λ k. asc_apart {x = x} (take n l) (drop n l) (rw (take-append-drop n l) a) o h k)

-- the first of an ascending list ascend
pub asc_take : {x : ℕ} (n : ℕ) (l : List ℕ) → Asc x l → Asc x (take n l)
asc_take zero l a = end
asc_take (suc n) [] a = end
asc_take (suc n) (y ∷ l) (next p a) = next p (asc_take n l a)

-- the rest of an ascending list ascend
pub asc_drop : {x : ℕ} (n : ℕ) (l : List ℕ) → Asc x l → Asc 0 (drop n l)
asc_drop zero [] a = end
asc_drop zero (y ∷ l) (next p a) = let z : 0 ≤ y = omega arith in next z a
asc_drop (suc n) [] a = end
asc_drop (suc n) (y ∷ l) (next p a) = asc_drop n l a
