-- Laws of the list functions: membership, ascending lists, places, selections, stores. Assumes nothing.
use mathlib.Core.Path.{◌≡◌, refl, sym, ◌∙◌, ap}
use mathlib.Core.List.{List, [], ◌∷◌, ◌++◌}
use mathlib.Core.Logic.{◌≢◌, ◌⊎◌, inl, inr}
use mathlib.Core.Bool.{true≢false, Bool, true, false}
use Prim.Native.Nat.{ℕ, zero, suc, ◌+◌, ◌≤◌, ◌<◌}
use native.Mathlib.Omega.{arith}
use native.Mathlib.Nat.{le_refl}
use lib.Dec.{ltb, eqb}
use lib.ListN.{length, get_or, set, take, replicate, length-replicate, get_or-replicate, get_or-eq_default}
use borrow.Author.Tests.{ltb-true, ltb-false, eqb-true, eqb-false, eq-eqb, lt-ltb}
use Rattle.model.specs.Lists.{all, elem, ascending, last_of, select, store}
use Rattle.model.proofs.Bools.{and_l, and_r, and_i, all_head, all_tail, all_cons}

pub elem_cons : (o y : ℕ) (l : List ℕ) → elem o (y ∷ l) ≡ true → (o ≡ y) ⊎ (elem o l ≡ true)
unfolding elem
elem_cons o y l h = go (eqb o y) refl
  where
    go : (t : Bool) → eqb o y ≡ t → (o ≡ y) ⊎ (elem o l ≡ true)
    go true e = inl (eqb-true o y e)
    go false e = inr (rw (e, elem) at h)

pub elem_here : (o : ℕ) (l : List ℕ) → elem o (o ∷ l) ≡ true
unfolding elem
elem_here o l = rw (eq-eqb o o refl, elem)

pub elem_there : (o y : ℕ) (l : List ℕ) → elem o l ≡ true → elem o (y ∷ l) ≡ true
unfolding elem
elem_there o y l h = go (eqb o y) refl
  where
    go : (t : Bool) → eqb o y ≡ t → elem o (y ∷ l) ≡ true
    go true e = rw (e, elem)
    go false e = rw (e, elem) h

-- all pass a test where each one does, and the other way round
module _ (t : ℕ → Bool) where
  pub all_each : (l : List ℕ) → ((x : ℕ) → elem x l ≡ true → t x ≡ true) → all t l ≡ true
  unfolding all
  all_each [] h = refl
  all_each (y ∷ l) h = all_cons t y l (h y (elem_here y l)) (all_each l (λ x e. h x (elem_there x y l e)))

  pub each_all : (l : List ℕ) → all t l ≡ true → (x : ℕ) → elem x l ≡ true → t x ≡ true
  unfolding elem
  each_all [] h x e = absurd (true≢false (sym e))
  each_all (y ∷ l) h x e = go (elem_cons x y l e) (each_all l (all_tail t y l h) x)
    where
      go : (x ≡ y) ⊎ (elem x l ≡ true) → (elem x l ≡ true → t x ≡ true) → t x ≡ true
      go (inl q) ih = rw q (all_head t y l h)
      go (inr q) ih = ih q

-- the order of two numbers in front doesn't matter
pub elem_swap : (x y z : ℕ) (l : List ℕ) → elem x (y ∷ z ∷ l) ≡ elem x (z ∷ y ∷ l)
unfolding elem
elem_swap x y z l = go (eqb x y) (eqb x z)
  where
    go : (t u : Bool) → ◌≡◌ {A = Bool} (elim t [ true ↦ true | false ↦ elim u [ true ↦ true | false ↦ elem x l ] ]) (elim u [ true ↦ true | false ↦ elim t [ true ↦ true | false ↦ elem x l ] ])
    go true true = refl
    go true false = refl
    go false true = refl
    go false false = refl

-- nor the numbers behind, as far as they are the same
pub elem_under : (x y : ℕ) (l m : List ℕ) → elem x l ≡ elem x m → elem x (y ∷ l) ≡ elem x (y ∷ m)
unfolding elem
elem_under x y l m h = ap (λ (t : Bool). elim (eqb x y) [ true ↦ true | false ↦ t ]) h

-- l is what the test picks of the n numbers from x on
pub record Picked (t : ℕ → Bool) (n x : ℕ) (l : List ℕ) : Type 0 where
  pub only : (o : ℕ) → elem o l ≡ true → (t o ≡ true) × (x ≤ o) × (o < x + n)
  pub every : (o : ℕ) → x ≤ o → o < x + n → t o ≡ true → elem o l ≡ true

-- b is a or above it
pub le_cases : (a b : ℕ) → a ≤ b → (b ≡ a) ⊎ (suc a ≤ b)
le_cases a b h = go (eqb b a) refl
  where
    go : (t : Bool) → eqb b a ≡ t → (b ≡ a) ⊎ (suc a ≤ b)
    go true e = inl (eqb-true b a e)
    go false e = let n : b ≢ a = eqb-false b a e in inr (omega arith)

pub no_elem : (o : ℕ) {A : Type 0} → elem o [] ≡ true → A
unfolding elem
no_elem o h = absurd (true≢false (sym h))

pub picked : (t : ℕ → Bool) (n x : ℕ) → Picked t n x (select t n x)
unfolding select
picked t zero x = record { only = λ o h. no_elem o h; every = λ o h k e. absurd (omega arith) }
picked t (suc n) x = go (t x) refl (picked t n (suc x))
  where
    only' : (l : List ℕ) → Picked t n (suc x) l → t x ≡ true → (o : ℕ) → (o ≡ x) ⊎ (elem o l ≡ true) → (t o ≡ true) × (x ≤ o) × (o < x + suc n)
    only' l s e o (inl q) = (rw q e, omega arith, omega arith)
    only' l s e o (inr k) = let h = s.only o k in (h.0, omega arith, omega arith)

    every' : (l : List ℕ) → Picked t n (suc x) l → (o : ℕ) → o < x + suc n → t o ≡ true → (o ≡ x) ⊎ (suc x ≤ o) → elem o (x ∷ l) ≡ true
    every' l s o k e (inl q) = rw q (elem_here x l)
    every' l s o k e (inr h) = elem_there o x l (s.every o h (omega arith) e)

    skip : (l : List ℕ) → Picked t n (suc x) l → t x ≡ false → (o : ℕ) → o < x + suc n → t o ≡ true → (o ≡ x) ⊎ (suc x ≤ o) → elem o l ≡ true
    skip l s e o k q (inl r) = absurd (true≢false (sym q ∙ ap t r ∙ e))
    skip l s e o k q (inr h) = s.every o h (omega arith) q

    go : (b : Bool) → t x ≡ b → Picked t n (suc x) (select t n (suc x)) → Picked t (suc n) x (select t (suc n) x)
    go true e s = rw (e, select) (record {
      only = λ o h. only' _ s e o (elem_cons o x _ h);
      every = λ o h k q. every' _ s o k q (le_cases x o h);
    })
    go false e s = rw (e, select) (record {
      only = λ o h. let k = s.only o h in (k.0, omega arith, omega arith);
      every = λ o h k q. skip _ s e o k q (le_cases x o h);
    })

-- l ascends, from x on
pub data Asc : ℕ → List ℕ → Type 0 where
  end : {x : ℕ} → Asc x []
  next : {x y : ℕ} {l : List ℕ} → x ≤ y → Asc (suc y) l → Asc x (y ∷ l)

pub asc_lower : {x y : ℕ} {l : List ℕ} → x ≤ y → Asc y l → Asc x l
asc_lower h end = end
asc_lower {x} h (next {y = y} k a) = let q : x ≤ y = omega arith in next q a

pub asc_select : (t : ℕ → Bool) (n x : ℕ) → Asc x (select t n x)
unfolding select
asc_select t zero x = end
asc_select t (suc n) x = go (t x) refl (asc_select t n (suc x))
  where
    go : (b : Bool) → t x ≡ b → Asc (suc x) (select t n (suc x)) → Asc x (select t (suc n) x)
    go true e a = let q : x ≤ x = omega arith in rw (e, select) (next q a)
    go false e a = rw (e, select) (asc_lower (omega arith) a)

-- in an ascending list the first is least and the last greatest
pub asc_elem : {x : ℕ} {l : List ℕ} → Asc x l → (o : ℕ) → elem o l ≡ true → x ≤ o
asc_elem end o h = no_elem o h
asc_elem {x} (next {y = y} {l = l} k a) o h = go (λ q. asc_elem a o q) (elem_cons o y l h)
  where
    go : (elem o l ≡ true → suc y ≤ o) → (o ≡ y) ⊎ (elem o l ≡ true) → x ≤ o
    go r (inl q) = omega arith
    go r (inr q) = omega (arith, r q)

pub asc_last : {x : ℕ} {l : List ℕ} → Asc x l → (z : ℕ) → z ≤ x → (z ≤ last_of z l) × ((o : ℕ) → elem o l ≡ true → o ≤ last_of z l)
unfolding last_of
asc_last end z h = (omega arith, λ o k. no_elem o k)
asc_last {x} (next {y = y} {l = l} k a) z h =
    let r : (y ≤ last_of y l) × ((o : ℕ) → elem o l ≡ true → o ≤ last_of y l) = asc_last a y (omega arith) in
    (omega (arith, r.0), λ o q. go r o (elem_cons o y l q))
  where
    go : (y ≤ last_of y l) × ((o : ℕ) → elem o l ≡ true → o ≤ last_of y l) → (o : ℕ) → (o ≡ y) ⊎ (elem o l ≡ true) → o ≤ last_of y l
    go r o (inl q) = omega (arith, r.0)
    go r o (inr q) = r.1 o q

pub last_elem : (f : ℕ) (l : List ℕ) → elem (last_of f l) (f ∷ l) ≡ true
unfolding last_of
last_elem f [] = elem_here f []
last_elem f (y ∷ l) = elem_there (last_of y l) f (y ∷ l) (last_elem y l)

pub asc_head : {x f : ℕ} {l : List ℕ} → Asc x (f ∷ l) → (o : ℕ) → elem o (f ∷ l) ≡ true → f ≤ o
asc_head {f = f} (next k a) o h = asc_elem (next (le_refl f) a) o h

pub asc_top : {x f : ℕ} {l : List ℕ} → Asc x (f ∷ l) → (o : ℕ) → elem o (f ∷ l) ≡ true → o ≤ last_of f l
unfolding last_of
asc_top {f = f} (next k a) o h = (asc_last (next (le_refl f) a) f (le_refl f)).1 o h

-- the test and the fact: a list ascends
pub asc_of : (l : List ℕ) → ascending l ≡ true → Asc 0 l
unfolding ascending
asc_of [] h = end
asc_of (x ∷ []) h = let q : 0 ≤ x = omega arith in next q end
asc_of (x ∷ y ∷ l) h = go (asc_of (y ∷ l) (and_r (ltb x y) (ascending (y ∷ l)) h))
  where
    go : Asc 0 (y ∷ l) → Asc 0 (x ∷ y ∷ l)
    go (next k a) =
        let q : 0 ≤ x = omega arith in
        let p : suc x ≤ y = ltb-true x y (and_l (ltb x y) (ascending (y ∷ l)) h) in
        next q (next p a)

pub of_asc : {x : ℕ} (l : List ℕ) → Asc x l → ascending l ≡ true
unfolding ascending
of_asc [] a = refl
of_asc (x ∷ []) a = refl
of_asc (x ∷ y ∷ l) (next k (next m a)) = and_i (ltb x y) (ascending (y ∷ l)) (lt-ltb x y m) (of_asc (y ∷ l) (next m a))

-- a number of the list stands at some place
pub elem-get_or : (l : List ℕ) (i : ℕ) → i < length l → elem (get_or l i 0) l ≡ true
elem-get_or [] i h = absurd (omega arith)
elem-get_or (x ∷ l) zero h = elem_here x l
elem-get_or (x ∷ l) (suc i) h = elem_there (get_or l i 0) x l (elem-get_or l i (omega arith))

pub record At (o : ℕ) (l : List ℕ) : Type 0 where
  pub index : ℕ
  pub inside : index < length l
  pub here : get_or l index 0 ≡ o

pub elem_at : (o : ℕ) (l : List ℕ) → elem o l ≡ true → At o l
elem_at o [] h = no_elem o h
elem_at o (x ∷ l) h = go (elem_cons o x l h) (λ k. elem_at o l k)
  where
    go : (o ≡ x) ⊎ (elem o l ≡ true) → (elem o l ≡ true → At o l) → At o (x ∷ l)
    go (inl q) ih = record { index = 0; inside = omega arith; here = sym q }
    go (inr q) ih = let a = ih q in record { index = suc a.index; inside = omega (arith, a.inside); here = a.here }

-- the default matters only beyond the end
pub get_or_default : {A : Type 0} (l : List A) (i : ℕ) (a b : A) → i < length l → get_or l i a ≡ get_or l i b
get_or_default [] i a b h = absurd (omega arith)
get_or_default (x ∷ l) zero a b h = refl
get_or_default (x ∷ l) (suc i) a b h = get_or_default l i a b (omega arith)

module _ {A : Type 0} where
  -- nothing stored changes nothing
  pub store_nil : (s : List A) (i : ℕ) → store s i [] ≡ s
  unfolding store
  store_nil [] i = refl
  store_nil (x ∷ s) zero = refl
  store_nil (x ∷ s) (suc i) = ap (λ (l : List A). x ∷ l) (store_nil s i)

  -- the first element, then the others
  pub store_first : (s : List A) (i : ℕ) (v : A) (vs : List A) → store s i (v ∷ vs) ≡ store (set s i v) (suc i) vs
  unfolding store
  store_first [] i v vs = refl
  store_first (x ∷ s) zero v vs = refl
  store_first (x ∷ s) (suc i) v vs = ap (λ (l : List A). x ∷ l) (store_first s i v vs)

  -- what was stored at the front is the front
  pub store-front : (s vs : List A) → length vs ≤ length s → take (length vs) (store s 0 vs) ≡ vs
  unfolding store
  store-front s [] h = refl
  store-front [] (v ∷ vs) h = absurd (let z : ⊥ = omega arith in z)
  store-front (x ∷ s) (v ∷ vs) h = ap (λ (l : List A). v ∷ l) (store-front s vs (omega arith))

  -- the first ones, then the others
  pub store_append : (s : List A) (i : ℕ) (us vs : List A) → store s i (us ++ vs) ≡ store (store s i us) (i + length us) vs
  unfolding store
  store_append [] i us vs = refl
  store_append (x ∷ s) zero [] vs = refl
  store_append (x ∷ s) zero (u ∷ us) vs =
      let e : 0 + suc (length us) ≡ suc (0 + length us) = omega arith in
      rw e (ap (λ (l : List A). u ∷ l) (store_append s zero us vs))
  store_append (x ∷ s) (suc i) us vs =
      let e : suc i + length us ≡ suc (i + length us) = omega arith in
      rw e (ap (λ (l : List A). x ∷ l) (store_append s i us vs))

  -- what is stored over the first ones of others takes their place
  pub store-over : (s : List A) (i : ℕ) (us vs ws : List A) → length us ≡ length ws → store (store s i (us ++ vs)) i ws ≡ store s i (ws ++ vs)
  unfolding store
  store-over [] i us vs ws h = refl
  store-over (x ∷ s) zero [] vs [] h = store_nil (store (x ∷ s) 0 vs) 0
  store-over (x ∷ s) zero [] vs (w ∷ ws) h = absurd (omega arith)
  store-over (x ∷ s) zero (u ∷ us) vs [] h = absurd (omega arith)
  store-over (x ∷ s) zero (u ∷ us) vs (w ∷ ws) h = ap (λ (l : List A). w ∷ l) (store-over s zero us vs ws (omega arith))
  store-over (x ∷ s) (suc i) us vs ws h = ap (λ (l : List A). x ∷ l) (store-over s i us vs ws h)

  -- a store keeps the length
  pub length-store : (s : List A) (i : ℕ) (vs : List A) → length (store s i vs) ≡ length s
  unfolding store
  length-store [] i vs = refl
  length-store (x ∷ s) zero [] = refl
  length-store (x ∷ s) zero (v ∷ vs) = ap suc (length-store s zero vs)
  length-store (x ∷ s) (suc i) vs = ap suc (length-store s i vs)

  -- read where it was stored
  pub get_or-store : (s : List A) (i : ℕ) (vs : List A) (j : ℕ) (d : A) → j < length vs → i + j < length s → get_or (store s i vs) (i + j) d ≡ get_or vs j d
  unfolding store
  get_or-store [] i vs j d h k = absurd (omega arith)
  get_or-store (x ∷ s) zero [] j d h k = absurd (omega arith)
  get_or-store (x ∷ s) zero (v ∷ vs) zero d h k = refl
  get_or-store (x ∷ s) zero (v ∷ vs) (suc j) d h k =
      let e : 0 + suc j ≡ suc (0 + j) = omega arith in
      rw e (get_or-store s zero vs j d (omega arith) (omega arith))
  get_or-store (x ∷ s) (suc i) vs j d h k =
      let e : suc i + j ≡ suc (i + j) = omega arith in
      rw e (get_or-store s i vs j d h (omega arith))

  -- read below it, and above it
  pub get_or-store-below : (s : List A) (i : ℕ) (vs : List A) (j : ℕ) (d : A) → j < i → get_or (store s i vs) j d ≡ get_or s j d
  unfolding store
  get_or-store-below [] i vs j d h = refl
  get_or-store-below (x ∷ s) zero vs j d h = absurd (omega arith)
  get_or-store-below (x ∷ s) (suc i) vs zero d h = refl
  get_or-store-below (x ∷ s) (suc i) vs (suc j) d h = get_or-store-below s i vs j d (omega arith)

  pub get_or-store-above : (s : List A) (i : ℕ) (vs : List A) (j : ℕ) (d : A) → i + length vs ≤ j → get_or (store s i vs) j d ≡ get_or s j d
  unfolding store
  get_or-store-above [] i vs j d h = refl
  get_or-store-above (x ∷ s) zero [] j d h = refl
  get_or-store-above (x ∷ s) zero (v ∷ vs) zero d h = absurd (omega arith)
  get_or-store-above (x ∷ s) zero (v ∷ vs) (suc j) d h = get_or-store-above s zero vs j d (omega arith)
  get_or-store-above (x ∷ s) (suc i) vs zero d h = absurd (omega arith)
  get_or-store-above (x ∷ s) (suc i) vs (suc j) d h = get_or-store-above s i vs j d (omega arith)

-- reading a list of equal elements gives that element, beyond its end too
pub replicate_at : {A : Type 0} (n i : ℕ) (a : A) → get_or (replicate n a) i a ≡ a
replicate_at n i a = go (ltb i n) refl
  where
    go : (t : Bool) → ltb i n ≡ t → get_or (replicate n a) i a ≡ a
    go true e = get_or-replicate n i a a (ltb-true i n e)
    go false e =
        let h : n ≤ i = ltb-false i n e in
        get_or-eq_default (replicate n a) a (rw length-replicate h)
