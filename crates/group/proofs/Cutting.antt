-- A list of placed records cut into levels, and a group written out as such a list, there and back: by induction on the
-- list, whose next record is in the level at hand or opens the next. Assumes nothing.
use mathlib.Core.Path.{◌≡◌, refl, sym, ap, ◌∙◌}
use mathlib.Core.List.{List, [], ◌∷◌, ◌++◌, map, flatten}
use mathlib.Core.Bool.{true≢false, Bool, true, false, ◌||◌}
use Prim.Native.Nat.{ℕ, suc}
use native.Mathlib.Omega.{arith}
use lib.Dec.{eqb}
use borrow.Author.Tests.{eqb-true, eq-eqb, ne_eqb}
use Rattle.model.specs.Lists.{all}
use Rattle.model.specs.Record.{Record}
use Rattle.model.specs.Levels.{Level, Group, listing}
use Rattle.model.specs.Sound.{is_filled}
use Rattle.model.proofs.Bools.{and_l, and_r, all_head, all_tail}
use Rattle.group.specs.Cutting.{Placed, in_level, flat_from, flat, front, behind, cut, climbs}

-- the record p behind level n of a list that climbs: in that level, or in the next
pub data Step (n : ℕ) (p : Placed) (l : List Placed) : Type 0 where
  same : p.level ≡ n → climbs (suc n) l ≡ true → Step n p l
  next : p.level ≡ suc n → climbs (suc (suc n)) l ≡ true → Step n p l

pub step : (n : ℕ) (p : Placed) (l : List Placed) → climbs (suc n) (p ∷ l) ≡ true → Step n p l
unfolding climbs
step n p l h = go (eqb p.level (suc n)) refl (and_l _ (climbs (suc p.level) l) h) (and_r (eqb p.level (suc n) || eqb (suc p.level) (suc n)) _ h)
  where
    go : (t : Bool) → eqb p.level (suc n) ≡ t → (t || eqb (suc p.level) (suc n)) ≡ true → climbs (suc p.level) l ≡ true → Step n p l
    go true e a c = let q : p.level ≡ suc n = eqb-true _ _ e in next q (rw q at c)
    go false e a c =
        let s : suc p.level ≡ suc n = eqb-true _ _ a in
        let q : p.level ≡ n = omega arith in
        same q (rw q at c)

-- the first record of a list that climbs is in level 0
pub top : (p : Placed) (l : List Placed) → climbs 0 (p ∷ l) ≡ true → (p.level ≡ 0) × (climbs 1 l ≡ true)
unfolding climbs
top p l h = go (eqb p.level 0) refl (and_l _ (climbs (suc p.level) l) h) (and_r (eqb p.level 0 || eqb (suc p.level) 0) _ h)
  where
    go : (t : Bool) → eqb p.level 0 ≡ t → (t || eqb (suc p.level) 0) ≡ true → climbs (suc p.level) l ≡ true → (p.level ≡ 0) × (climbs 1 l ≡ true)
    go true e a c = let q : p.level ≡ 0 = eqb-true _ _ e in (q, rw q at c)
    go false e a c = let s : suc p.level ≡ 0 = eqb-true _ _ a in absurd (omega arith)

module _ (n : ℕ) (p : Placed) (l : List Placed) where
  pub front_same : p.level ≡ n → front n (p ∷ l) ≡ p.item ∷ front n l
  unfolding front
  front_same e = rw (eq-eqb _ _ e, front)

  pub behind_same : p.level ≡ n → behind n (p ∷ l) ≡ behind n l
  unfolding behind
  behind_same e = rw (eq-eqb _ _ e, behind)

  pub front_next : p.level ≡ suc n → front n (p ∷ l) ≡ []
  unfolding front
  front_next e = rw (ne_eqb p.level n (λ f. omega arith), front)

  pub behind_next : p.level ≡ suc n → behind n (p ∷ l) ≡ (p.item ∷ front (suc n) l) ∷ behind (suc n) l
  unfolding behind
  behind_next e = rw (ne_eqb p.level n (λ f. omega arith), behind, e)

-- the records of the levels, one after the other, are those of the list
listing_from : (n : ℕ) (l : List Placed) → front n l ++ flatten (behind n l) ≡ map (λ p. p.item) l
unfolding front behind flatten
listing_from n [] = refl
listing_from n (p ∷ l) = go (eqb p.level n) refl (listing_from n l) (listing_from p.level l)
  where
    go : (t : Bool) → eqb p.level n ≡ t → front n l ++ flatten (behind n l) ≡ map (λ p. p.item) l
        → front p.level l ++ flatten (behind p.level l) ≡ map (λ p. p.item) l → front n (p ∷ l) ++ flatten (behind n (p ∷ l)) ≡ p.item ∷ map (λ p. p.item) l
    go true e ih jh = rw (e, front, behind) (ap (λ (k : List Record). p.item ∷ k) ih)
    go false e ih jh = rw (e, front, behind) (ap (λ (k : List Record). p.item ∷ k) jh)

pub listing-cut : (l : List Placed) → listing (cut l) ≡ map (λ p. p.item) l
unfolding cut flatten
listing-cut [] = refl
listing-cut (p ∷ l) = ap (λ (k : List Record). p.item ∷ k) (listing_from p.level l)

-- no level is empty
filled-behind : (n : ℕ) (l : List Placed) → all is_filled (behind n l) ≡ true
unfolding behind all is_filled
filled-behind n [] = refl
filled-behind n (p ∷ l) = go (eqb p.level n) refl (filled-behind n l) (filled-behind p.level l)
  where
    go : (t : Bool) → eqb p.level n ≡ t → all is_filled (behind n l) ≡ true → all is_filled (behind p.level l) ≡ true → all is_filled (behind n (p ∷ l)) ≡ true
    go true e ih jh = rw (e, behind) ih
    go false e ih jh = rw (e, behind) jh

pub filled-cut : (l : List Placed) → all is_filled (cut l) ≡ true
unfolding cut all is_filled
filled-cut [] = refl
filled-cut (p ∷ l) = filled-behind p.level l

-- the list that was cut
is_in : (n : ℕ) (p : Placed) → p.level ≡ n → in_level n p.item ≡ p
is_in n p e = ap (λ (k : ℕ). in_level k p.item) (sym e)

flat_from_lem : (n : ℕ) (l : List Placed) → climbs (suc n) l ≡ true → flat_from n (front n l ∷ behind n l) ≡ l
unfolding flat_from front behind
flat_from_lem n [] h = refl
flat_from_lem n (p ∷ l) h = go (step n p l h) (λ c. flat_from_lem n l c) (λ c. flat_from_lem (suc n) l c)
  where
    go : Step n p l → (climbs (suc n) l ≡ true → flat_from n (front n l ∷ behind n l) ≡ l)
        → (climbs (suc (suc n)) l ≡ true → flat_from (suc n) (front (suc n) l ∷ behind (suc n) l) ≡ l) → flat_from n (front n (p ∷ l) ∷ behind n (p ∷ l)) ≡ p ∷ l
    go (same e c) ih jh = rw (front_same n p l e, behind_same n p l e, is_in n p e) (ap (λ (k : List Placed). p ∷ k) (ih c))
    go (next e c) ih jh = rw (front_next n p l e, behind_next n p l e, is_in (suc n) p e) (ap (λ (k : List Placed). p ∷ k) (jh c))

pub flat-cut : (l : List Placed) → climbs 0 l ≡ true → flat (cut l) ≡ l
unfolding cut flat_from
flat-cut [] h = refl
flat-cut (p ∷ l) h =
    let t = top p l h in
    let e : p.level ≡ 0 = t.0 in
    rw (e, is_in 0 p e) (ap (λ (k : List Placed). p ∷ k) (flat_from_lem 0 l t.1))

-- the group that was written out
module _ (n : ℕ) where
  cut_tail : (g : Group) → all is_filled g ≡ true → (front n (flat_from (suc n) g) ≡ []) × (behind n (flat_from (suc n) g) ≡ cut (flat_from (suc n) g))
  unfolding flat_from front behind cut is_filled
  cut_tail [] h = (refl, refl)
  cut_tail ([] ∷ g) h = absurd (true≢false (sym (all_head is_filled [] g h)))
  cut_tail ((r ∷ l) ∷ g) h = let e : eqb (suc n) n ≡ false = ne_eqb (suc n) n (λ f. omega arith) in (rw (e, front), rw (e, behind))

  cut_level : (l : Level) (k : List Placed) (g : Group) → front n k ≡ [] → behind n k ≡ g → (front n (map (in_level n) l ++ k) ≡ l) × (behind n (map (in_level n) l ++ k) ≡ g)
  unfolding front behind
  cut_level [] k g a c = (a, c)
  cut_level (r ∷ l) k g a c =
      let ih = cut_level l k g a c in
      (rw (eq-eqb n n refl, front) (ap (λ (m : Level). r ∷ m) ih.0), rw (eq-eqb n n refl, behind) ih.1)

cut-flat_from : (n : ℕ) (g : Group) → all is_filled g ≡ true → cut (flat_from n g) ≡ g
unfolding flat_from cut is_filled
cut-flat_from n [] h = refl
cut-flat_from n ([] ∷ g) h = absurd (true≢false (sym (all_head is_filled [] g h)))
cut-flat_from n ((r ∷ l) ∷ g) h =
    let t = cut_tail n g (all_tail is_filled (r ∷ l) g h) in
    let ih : cut (flat_from (suc n) g) ≡ g = cut-flat_from (suc n) g (all_tail is_filled (r ∷ l) g h) in
    let c = cut_level n l (flat_from (suc n) g) g t.0 (t.1 ∙ ih) in
    rw (c.0, c.1)

pub cut-flat : (g : Group) → all is_filled g ≡ true → cut (flat g) ≡ g
cut-flat g h = cut-flat_from 0 g h

-- a group whose levels hold records climbs
climbs-level : (n : ℕ) (l : Level) (k : List Placed) → climbs (suc n) k ≡ true → climbs (suc n) (map (in_level n) l ++ k) ≡ true
unfolding climbs
climbs-level n [] k h = h
climbs-level n (r ∷ l) k h =
    let e : eqb n (suc n) ≡ false = ne_eqb n (suc n) (λ f. omega arith) in
    rw (e, eq-eqb (suc n) (suc n) refl) (climbs-level n l k h)

climbs_from : (n : ℕ) (g : Group) → all is_filled g ≡ true → climbs n (flat_from n g) ≡ true
unfolding climbs flat_from is_filled
climbs_from n [] h = refl
climbs_from n ([] ∷ g) h = absurd (true≢false (sym (all_head is_filled [] g h)))
climbs_from n ((r ∷ l) ∷ g) h =
    rw (eq-eqb n n refl) (climbs-level n l (flat_from (suc n) g) (climbs_from (suc n) g (all_tail is_filled (r ∷ l) g h)))

pub climbs-flat : (g : Group) → all is_filled g ≡ true → climbs 0 (flat g) ≡ true
climbs-flat g h = climbs_from 0 g h
