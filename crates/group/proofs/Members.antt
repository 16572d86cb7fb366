-- An element of a list, tests on all elements, and approximate records by their start: by induction on the list. Assumes nothing.
use mathlib.Core.Path.{◌≡◌, refl, sym, ap}
use mathlib.Core.List.{List, [], ◌∷◌, map}
use mathlib.Core.Bool.{true≢false, Bool, true, false, ◌&&◌, ◌||◌}
use mathlib.Core.Logic.{◌⊎◌, inl, inr}
use Prim.Native.Nat.{ℕ, zero, suc, ◌+◌, ◌≤◌, ◌<◌}
use native.Mathlib.Omega.{arith}
use lib.Dec.{eqb}
use lib.ListN.{length}
use borrow.Author.Tests.{eqb-true, eq-eqb}
use Rattle.model.specs.Lists.{all}
use Rattle.model.proofs.Bools.{and_l, and_r, and_i, all_head, all_tail, all_cons}
use Rattle.model.proofs.Lists.{le_cases}
use Rattle.group.specs.declared.Slot.{Slot}
use Rattle.group.specs.Reading.{starts_at, named, every_from}
use Rattle.group.specs.Checking.{approx}

-- s is in the list
pub data In {A : Type 0} (s : A) : List A → Type 0 where
  here : {l : List A} → In s (s ∷ l)
  there : {t : A} {l : List A} → In s l → In s (t ∷ l)

-- a list that has an element is not empty
pub in_some : {A : Type 0} {l : List A} {s : A} → In s l → 0 < length l
in_some here = omega arith
in_some (there i) = omega arith

module _ {A : Type 0} (t : A → Bool) where
  pub all_in : {s : A} {l : List A} → all t l ≡ true → In s l → t s ≡ true
  all_in {s = s} {l = []} h i = elim i [ ]
  all_in {l = s ∷ l} h here = all_head t s l h
  all_in {l = x ∷ l} h (there i) = all_in (all_tail t x l h) i

  pub in_all : (l : List A) → ((s : A) → In s l → t s ≡ true) → all t l ≡ true
  unfolding all
  in_all [] h = refl
  in_all (s ∷ l) h = all_cons t s l (h s here) (in_all l (λ x i. h x (there i)))

module _ {A B : Type 0} (f : A → B) where
  pub in_map : {s : A} {l : List A} → In s l → In (f s) (map f l)
  in_map here = here
  in_map (there i) = there (in_map i)

pub map-map : {A B C : Type 0} (f : A → B) (g : B → C) (l : List A) → map g (map f l) ≡ map (λ x. g (f x)) l
map-map f g [] = refl
map-map f g (x ∷ l) = ap (λ k. g (f x) ∷ k) (map-map f g l)

-- a map that changes no element of the list leaves the list
pub map_same : {A : Type 0} (f : A → A) (l : List A) → ((s : A) → In s l → f s ≡ s) → map f l ≡ l
map_same f [] h = refl
map_same f (s ∷ l) h = rw (h s here, map_same f l (λ x i. h x (there i)))

pub all_map : {A : Type 0} (t : A → Bool) (f : Slot → A) (l : List Slot) → all t (map f l) ≡ all (λ s. t (f s)) l
unfolding all
all_map t f [] = refl
all_map t f (s ∷ l) = ap (λ (b : Bool). t (f s) && b) (all_map t f l)

-- the slot of an approximate record with this start
pub record Named (start : ℕ) (l : List Slot) : Type 0 where
  pub slot : Slot
  pub among : In slot l
  pub kind : approx slot.held ≡ true
  pub starts : slot.held.start ≡ start

pub named_of_lem : (start : ℕ) (l : List Slot) → named start l ≡ true → Named start l
unfolding named starts_at
named_of_lem start [] h = absurd (true≢false (sym h))
named_of_lem start (s ∷ l) h = go (approx s.held && eqb s.held.start start) refl h (λ k. named_of_lem start l k)
  where
    go : (t : Bool) → (approx s.held && eqb s.held.start start) ≡ t → (t || named start l) ≡ true → (named start l ≡ true → Named start l) → Named start (s ∷ l)
    go true e k ih = record { slot = s; among = here; kind = and_l (approx s.held) _ e; starts = eqb-true _ _ (and_r (approx s.held) _ e) }
    go false e k ih = let n = ih k in record { slot = n.slot; among = there n.among; kind = n.kind; starts = n.starts }

pub named_there : (start : ℕ) (s : Slot) (l : List Slot) → named start l ≡ true → named start (s ∷ l) ≡ true
unfolding named
named_there start s l h = go (starts_at start s)
  where
    go : (t : Bool) → (t || named start l) ≡ true
    go true = refl
    go false = h

pub named_here : (s : Slot) (l : List Slot) → approx s.held ≡ true → named s.held.start (s ∷ l) ≡ true
unfolding named starts_at
named_here s l a = rw (a, eq-eqb s.held.start s.held.start refl)

pub in_named : {s : Slot} {l : List Slot} → In s l → approx s.held ≡ true → named s.held.start l ≡ true
in_named {s = s} {l = []} i a = elim i [ ]
in_named {l = s ∷ l} here a = named_here s l a
in_named {s = s} {l = t ∷ l} (there i) a = named_there s.held.start t l (in_named i a)

-- a test on the n numbers from x on
pub every_of : (t : ℕ → Bool) (n x : ℕ) → every_from t n x ≡ true → (o : ℕ) → x ≤ o → o < x + n → t o ≡ true
unfolding every_from
every_of t zero x h o a c = absurd (omega arith)
every_of t (suc n) x h o a c = go (le_cases x o a) (λ d. every_of t n (suc x) (and_r (t x) _ h) o d (omega arith))
  where
    go : (o ≡ x) ⊎ (suc x ≤ o) → (suc x ≤ o → t o ≡ true) → t o ≡ true
    go (inl q) ih = rw q (and_l (t x) _ h)
    go (inr d) ih = ih d

pub of_every : (t : ℕ → Bool) (n x : ℕ) → ((o : ℕ) → x ≤ o → o < x + n → t o ≡ true) → every_from t n x ≡ true
unfolding every_from
of_every t zero x h = refl
of_every t (suc n) x h = and_i (t x) _ (h x (omega arith) (omega arith)) (of_every t n (suc x) (λ o a c. h o (omega arith) (omega arith)))
