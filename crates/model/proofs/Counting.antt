-- Counting: distinct numbers, the pigeonhole, and the two least of several numbers. Assumes nothing.
use mathlib.Core.Path.{◌≡◌, refl, sym, ◌∙◌, ap}
use mathlib.Core.List.{List, [], ◌∷◌, ◌++◌, map}
use mathlib.Core.Logic.{◌≢◌, ◌⊎◌, inl, inr}
use mathlib.Core.Bool.{true≢false, Bool, true, false, not}
use Prim.Native.Nat.{ℕ, zero, suc, ◌+◌, ◌*◌, ◌≤◌, ◌<◌}
use native.Mathlib.Omega.{arith}
use native.Mathlib.Nat.{mul-le-mul_left}
use lib.Dec.{leb, eqb}
use lib.ListN.{length, get_or}
use borrow.Author.Tests.{leb-true, leb-false, eqb-true, eqb-false, not-true}
use Rattle.model.specs.Lists.{elem, distinct}
use Rattle.model.proofs.Bools.{and_l, and_r, and_i, is_false}
use Rattle.model.proofs.Lists.{elem_cons, elem_here, elem_there, no_elem, elem-get_or, Asc, end, next, asc_elem}

-- The first of distinct numbers stands nowhere behind.
pub distinct_head : (x : ℕ) (l : List ℕ) → distinct (x ∷ l) ≡ true → elem x l ≡ false
unfolding distinct
distinct_head x l h = not-true (elem x l) (and_l (not (elem x l)) (distinct l) h)

-- The numbers behind it are distinct.
pub distinct_tail : (x : ℕ) (l : List ℕ) → distinct (x ∷ l) ≡ true → distinct l ≡ true
unfolding distinct
distinct_tail x l h = and_r (not (elem x l)) (distinct l) h

-- A number put before distinct ones that it isn't among leaves them distinct.
pub distinct_cons : (x : ℕ) (l : List ℕ) → elem x l ≡ false → distinct l ≡ true → distinct (x ∷ l) ≡ true
unfolding distinct
distinct_cons x l h k = and_i (not (elem x l)) (distinct l) (ap not h) k

-- A number of an appended list is in one of the two.
pub elem_append : (o : ℕ) (l m : List ℕ) → elem o (l ++ m) ≡ true → (elem o l ≡ true) ⊎ (elem o m ≡ true)
elem_append o [] m h = inr h
elem_append o (x ∷ l) m h = go (elem_cons o x (l ++ m) h) (λ k. elem_append o l m k)
  where
    back : (elem o l ≡ true) ⊎ (elem o m ≡ true) → (elem o (x ∷ l) ≡ true) ⊎ (elem o m ≡ true)
    back (inl k) = inl (elem_there o x l k)
    back (inr k) = inr k

    go : (o ≡ x) ⊎ (elem o (l ++ m) ≡ true) → (elem o (l ++ m) ≡ true → (elem o l ≡ true) ⊎ (elem o m ≡ true)) → (elem o (x ∷ l) ≡ true) ⊎ (elem o m ≡ true)
    go (inl q) ih = inl (rw q (elem_here x l))
    go (inr k) ih = back (ih k)

-- A number of the first list is in the appended one.
pub elem-left : (o : ℕ) (l m : List ℕ) → elem o l ≡ true → elem o (l ++ m) ≡ true
elem-left o [] m h = no_elem o h
elem-left o (x ∷ l) m h = go (elem_cons o x l h) (λ k. elem-left o l m k)
  where
    go : (o ≡ x) ⊎ (elem o l ≡ true) → (elem o l ≡ true → elem o (l ++ m) ≡ true) → elem o (x ∷ (l ++ m)) ≡ true
    go (inl q) ih = rw q (elem_here x (l ++ m))
    go (inr k) ih = elem_there o x (l ++ m) (ih k)

-- A number of the second list is in the appended one.
pub elem-right : (o : ℕ) (l m : List ℕ) → elem o m ≡ true → elem o (l ++ m) ≡ true
elem-right o [] m h = h
elem-right o (x ∷ l) m h = elem_there o x (l ++ m) (elem-right o l m h)

-- Two lists of distinct numbers with none in common, appended, are distinct.
pub distinct_append : (l m : List ℕ) → distinct l ≡ true → distinct m ≡ true → ((o : ℕ) → elem o l ≡ true → elem o m ≡ true → ⊥) → distinct (l ++ m) ≡ true
distinct_append [] m h k f = k
distinct_append (x ∷ l) m h k f =
    distinct_cons x (l ++ m) (is_false (elem x (l ++ m)) (λ q. out (elem_append x l m q))) (distinct_append l m (distinct_tail x l h) k (λ o a b. f o (elem_there o x l a) b))
  where
    out : (elem x l ≡ true) ⊎ (elem x m ≡ true) → ⊥
    out (inl q) = true≢false (sym q ∙ distinct_head x l h)
    out (inr q) = f x (elem_here x l) q

-- So is the second.
pub distinct-right : (l m : List ℕ) → distinct (l ++ m) ≡ true → distinct m ≡ true
distinct-right [] m h = h
distinct-right (x ∷ l) m h = distinct-right l m (distinct_tail x (l ++ m) h)

-- They have no number in common.
pub distinct_apart : (l m : List ℕ) → distinct (l ++ m) ≡ true → (o : ℕ) → elem o l ≡ true → elem o m ≡ true → ⊥
distinct_apart [] m h o a b = no_elem o a
distinct_apart (x ∷ l) m h o a b = go (elem_cons o x l a) (λ k. distinct_apart l m (distinct_tail x (l ++ m) h) o k b)
  where
    go : (o ≡ x) ⊎ (elem o l ≡ true) → (elem o l ≡ true → ⊥) → ⊥
    go (inl q) ih = true≢false (sym (elem-right o l m b) ∙ ap (λ (z : ℕ). elem z (l ++ m)) q ∙ distinct_head x (l ++ m) h)
    go (inr k) ih = ih k

-- An ascending list is distinct.
pub asc_distinct : {x : ℕ} {l : List ℕ} → Asc x l → distinct l ≡ true
unfolding distinct
asc_distinct end = refl
asc_distinct (next {y = y} {l = l} h a) = distinct_cons y l (is_false (elem y l) (λ q. absurd (omega (arith, asc_elem a y q)))) (asc_distinct a)

module _ (f : ℕ → ℕ) where
  -- x comes from one of the numbers
  pub record From (l : List ℕ) (x : ℕ) : Type 0 where
    pub source : ℕ
    pub among : elem source l ≡ true
    pub gives : f source ≡ x

  -- What is in a mapped list comes from a number of the list.
  pub from : (l : List ℕ) (x : ℕ) → elem x (map f l) ≡ true → From l x
  from [] x h = no_elem x h
  from (y ∷ l) x h = go (elem_cons x (f y) (map f l) h) (λ k. from l x k)
    where
      go : (x ≡ f y) ⊎ (elem x (map f l) ≡ true) → (elem x (map f l) ≡ true → From l x) → From (y ∷ l) x
      go (inl e) ih = record { source = y; among = elem_here y l; gives = sym e }
      go (inr k) ih = let q = ih k in record { source = q.source; among = elem_there q.source y l q.among; gives = q.gives }

  -- Distinct numbers that give distinct ones.
  pub map-distinct : (l : List ℕ) → ((x y : ℕ) → elem x l ≡ true → elem y l ≡ true → f x ≡ f y → x ≡ y) → distinct l ≡ true → distinct (map f l) ≡ true
  unfolding distinct
  map-distinct [] once h = refl
  map-distinct (x ∷ l) once h =
      distinct_cons (f x) (map f l) (is_false _ (λ m. out (from l (f x) m))) (map-distinct l (λ y z a b. once y z (elem_there y x l a) (elem_there z x l b)) (distinct_tail x l h))
    where
      out : From l (f x) → ⊥
      out r =
          let e : r.source ≡ x = once r.source x (elem_there r.source x l r.among) (elem_here x l) r.gives in
          true≢false (sym r.among ∙ ap (λ (y : ℕ). elem y l) e ∙ distinct_head x l h)

-- Distinct numbers stand at one place each.
pub distinct-index : (l : List ℕ) (i j : ℕ) → distinct l ≡ true → i < length l → j < length l → get_or l i 0 ≡ get_or l j 0 → i ≡ j
distinct-index [] i j h a b e = absurd (omega arith)
distinct-index (x ∷ l) zero zero h a b e = refl
distinct-index (x ∷ l) zero (suc j) h a b e =
    absurd (true≢false (sym (elem-get_or l j (omega arith)) ∙ ap (λ (z : ℕ). elem z l) (sym e) ∙ distinct_head x l h))
distinct-index (x ∷ l) (suc i) zero h a b e =
    absurd (true≢false (sym (elem-get_or l i (omega arith)) ∙ ap (λ (z : ℕ). elem z l) e ∙ distinct_head x l h))
distinct-index (x ∷ l) (suc i) (suc j) h a b e = ap suc (distinct-index l i j (distinct_tail x l h) (omega arith) (omega arith) e)

-- the list without the first x of it
remove : ℕ → List ℕ → List ℕ
remove x [] = []
remove x (y ∷ l) = elim (eqb x y) [ true ↦ l | false ↦ y ∷ remove x l ]

length-remove : (x : ℕ) (l : List ℕ) → length l ≤ suc (length (remove x l))
unfolding remove
length-remove x [] = omega arith
length-remove x (y ∷ l) = go (eqb x y) refl (length-remove x l)
  where
    go : (t : Bool) → eqb x y ≡ t → length l ≤ suc (length (remove x l)) → length (y ∷ l) ≤ suc (length (remove x (y ∷ l)))
    go true e h = rw (e, remove) (omega arith)
    go false e h = rw (e, remove) (omega arith)

elem-remove : (x o : ℕ) (l : List ℕ) → distinct l ≡ true → elem o (remove x l) ≡ true → (elem o l ≡ true) × (o ≢ x)
unfolding remove
elem-remove x o [] d h = no_elem o h
elem-remove x o (y ∷ l) d h = go (eqb x y) refl (λ k. elem-remove x o l (distinct_tail y l d) k)
  where
    apart : elem o l ≡ true → o ≢ y
    apart k q = true≢false (sym k ∙ ap (λ (z : ℕ). elem z l) q ∙ distinct_head y l d)

    tail : eqb x y ≡ false → (elem o (remove x l) ≡ true → (elem o l ≡ true) × (o ≢ x)) → (o ≡ y) ⊎ (elem o (remove x l) ≡ true) → (elem o (y ∷ l) ≡ true) × (o ≢ x)
    tail e ih (inl q) = (rw q (elem_here y l), λ p. eqb-false x y e (sym p ∙ q))
    tail e ih (inr k) = (elem_there o y l (ih k).0, (ih k).1)

    go : (t : Bool) → eqb x y ≡ t → (elem o (remove x l) ≡ true → (elem o l ≡ true) × (o ≢ x)) → (elem o (y ∷ l) ≡ true) × (o ≢ x)
    go true e ih =
        let k : elem o l ≡ true = rw (e, remove) at h in
        (elem_there o y l k, λ p. apart k (p ∙ eqb-true x y e))
    go false e ih = tail e ih (elem_cons o y (remove x l) (rw (e, remove) at h))

distinct_remove : (x : ℕ) (l : List ℕ) → distinct l ≡ true → distinct (remove x l) ≡ true
unfolding remove
distinct_remove x [] d = d
distinct_remove x (y ∷ l) d = go (eqb x y) refl (distinct_remove x l (distinct_tail y l d))
  where
    out : elem y (remove x l) ≡ false
    out = is_false (elem y (remove x l)) (λ h. true≢false (sym (elem-remove x y l (distinct_tail y l d) h).0 ∙ distinct_head y l d))

    go : (t : Bool) → eqb x y ≡ t → distinct (remove x l) ≡ true → distinct (remove x (y ∷ l)) ≡ true
    go true e ih = rw (e, remove) (distinct_tail y l d)
    go false e ih = rw (e, remove) (distinct_cons y (remove x l) out ih)

-- The pigeonhole: distinct numbers below n are at most n.
pub pigeonhole : (n : ℕ) (l : List ℕ) → distinct l ≡ true → ((o : ℕ) → elem o l ≡ true → o < n) → length l ≤ n
pigeonhole zero [] d b = omega arith
pigeonhole zero (x ∷ l) d b = absurd (omega (arith, b x (elem_here x l)))
pigeonhole (suc n) l d b =
    let ih : length (remove n l) ≤ n = pigeonhole n (remove n l) (distinct_remove n l d) (λ o h. less o (elem-remove n o l d h)) in
    omega (arith, length-remove n l)
  where
    less : (o : ℕ) → (elem o l ≡ true) × (o ≢ n) → o < n
    less o h = omega (arith, b o h.0)

-- the sum of the numbers
unfoldable pub sum : List ℕ → ℕ
sum [] = 0
sum (x ∷ l) = x + sum l

sum-above : (b : ℕ) (l : List ℕ) → ((o : ℕ) → elem o l ≡ true → b ≤ o) → length l * b ≤ sum l
unfolding sum
sum-above b [] f = omega arith
sum-above b (x ∷ l) f = omega (arith, f x (elem_here x l), sum-above b l (λ o h. f o (elem_there o x l h)))

-- If twice the sum of numbers is at most their count times B, the two least of them, a and b, sum to at most B.
pub two_fit : (a b B : ℕ) (l : List ℕ) → a ≤ b → ((o : ℕ) → elem o l ≡ true → b ≤ o) → 2 * sum (a ∷ b ∷ l) ≤ length (a ∷ b ∷ l) * B → a + b ≤ B
unfolding sum
two_fit a b B l h f s = go (leb (a + b) B) refl
  where
    least : (length l + 2) * (a + b) ≤ 2 * (a + (b + sum l))
    least = omega (arith, sum-above b l f, mul-le-mul_left (length l) h)

    go : (t : Bool) → leb (a + b) B ≡ t → a + b ≤ B
    go true e = leb-true (a + b) B e
    go false e = absurd (omega (arith, least, s, mul-le-mul_left (length l + 2) (leb-false (a + b) B e)))
