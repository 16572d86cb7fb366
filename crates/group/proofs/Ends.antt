-- The offsets whose owner names a start, and the record that owns them: it owns its ends exactly where the owners of its
-- first and last offset name it and no other owner does outside its range. Assumes nothing.
use mathlib.Core.Path.{◌≡◌, sym, ◌∙◌}
use mathlib.Core.List.{List, [], ◌∷◌}
use mathlib.Core.Bool.{true≢false, true, ◌&&◌}
use Prim.Native.Nat.{ℕ, suc, ◌≤◌, ◌<◌}
use native.Mathlib.Omega.{arith}
use lib.Dec.{eqb}
use borrow.Author.Tests.{eqb-true, eq-eqb}
use Rattle.model.specs.Lists.{elem, ascending, last_of}
use Rattle.model.specs.Record as model
use Rattle.model.specs.Record.{end}
use Rattle.model.specs.Sound.{owns_its_ends}
use Rattle.model.proofs.Bools.{and_l, and_r, and_i, iff_bool}
use Rattle.model.proofs.Lists.{picked, Asc, asc_select, of_asc, asc_head, asc_top, last_elem, elem_here, no_elem}
use Rattle.group.specs.Reading.{owned_by}

module _ (w : ℕ → ℕ) (start : ℕ) where
  pub owned_by_lem : (o : ℕ) → o < 256 → elem o (owned_by w start) ≡ eqb (w o) (suc start)
  unfolding owned_by
  owned_by_lem o h =
      let p = picked (λ i. eqb (w i) (suc start)) 256 0 in
      iff_bool _ _ (λ e. (p.only o e).0) (λ e. p.every o (omega arith) (omega arith) e)

  -- an offset whose owner names the start, and one that is owned by it
  pub owned_in : (o : ℕ) → o < 256 → w o ≡ suc start → elem o (owned_by w start) ≡ true
  owned_in o h e = owned_by_lem o h ∙ eq-eqb _ _ e

  pub owned_only : (o : ℕ) → elem o (owned_by w start) ≡ true → (w o ≡ suc start) × (o < 256)
  unfolding owned_by
  owned_only o e = let p = (picked (λ i. eqb (w i) (suc start)) 256 0).only o e in (eqb-true _ _ p.0, omega (arith, p.2))

  pub owned_asc : Asc 0 (owned_by w start)
  unfolding owned_by
  owned_asc = asc_select (λ i. eqb (w i) (suc start)) 256 0

-- by the owners, the record with this start owns its first offset and its last, and none outside
pub record Ends (w : ℕ → ℕ) (start last : ℕ) : Type 0 where
  pub first_own : w start ≡ suc start
  pub last_own : w last ≡ suc start
  pub within : (o : ℕ) → o < 256 → w o ≡ suc start → (start ≤ o) × (o ≤ last)

module _ (w : ℕ → ℕ) (r : model.Record) where
  pub owns_of : end r ≤ 255 → Ends w r.start (end r) → owns_its_ends r (owned_by w r.start) ≡ true
  unfolding owns_its_ends
  owns_of h e =
      go (owned_by w r.start) (owned_asc w r.start) (λ o k. let q = owned_only w r.start o k in e.within o q.1 q.0)
      (owned_in w r.start r.start (omega arith) e.first_own) (owned_in w r.start (end r) (omega arith) e.last_own)
    where
      go : (l : List ℕ) → Asc 0 l → ((o : ℕ) → elem o l ≡ true → (r.start ≤ o) × (o ≤ end r)) → elem r.start l ≡ true → elem (end r) l ≡ true → owns_its_ends r l ≡ true
      go [] a f s t = no_elem r.start s
      go (x ∷ l) a f s t =
          let low : x ≡ r.start = omega (arith, asc_head a r.start s, (f x (elem_here x l)).0) in
          let high : last_of x l ≡ end r = omega (arith, asc_top a (end r) t, (f (last_of x l) (last_elem x l)).1) in
          and_i _ _ (and_i _ _ (of_asc (x ∷ l) a) (eq-eqb _ _ low)) (eq-eqb _ _ high)

  pub of_owns : owns_its_ends r (owned_by w r.start) ≡ true → Ends w r.start (end r)
  unfolding owns_its_ends
  of_owns h = go (owned_by w r.start) (λ o k. (owned_only w r.start o k).0) (λ o k e. owned_in w r.start o k e) (owned_asc w r.start) h
    where
      go : (l : List ℕ) → ((o : ℕ) → elem o l ≡ true → w o ≡ suc r.start) → ((o : ℕ) → o < 256 → w o ≡ suc r.start → elem o l ≡ true) → Asc 0 l → owns_its_ends r l ≡ true
          → Ends w r.start (end r)
      go [] f g a k = absurd (true≢false (sym k))
      go (x ∷ l) f g a k =
          let b : (ascending (x ∷ l) && eqb x r.start) ≡ true = and_l (ascending (x ∷ l) && eqb x r.start) _ k in
          let low : x ≡ r.start = eqb-true _ _ (and_r (ascending (x ∷ l)) _ b) in
          let high : last_of x l ≡ end r = eqb-true _ _ (and_r (ascending (x ∷ l) && eqb x r.start) _ k) in
          record {
            first_own = rw low at (f x (elem_here x l));
            last_own = rw high at (f (last_of x l) (last_elem x l));
            within = λ o i e. (omega (arith, asc_head a o (g o i e)), omega (arith, asc_top a o (g o i e)));
          }
