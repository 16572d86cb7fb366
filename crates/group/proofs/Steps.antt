-- The slots stand in their places exactly where their levels climb and each level is ordered: slot by slot, a slot of the
-- level at hand adds one test of order, and one of another level has to open the next. Assumes nothing.
use mathlib.Core.Path.{◌≡◌, refl}
use mathlib.Core.List.{List, [], ◌∷◌, map}
use mathlib.Core.Bool.{Bool, true, false, ◌&&◌, ◌||◌}
use Prim.Native.Nat.{ℕ, suc}
use native.Mathlib.Omega.{arith}
use lib.Dec.{leb, eqb}
use borrow.Author.Tests.{eqb-true, eqb-false, eq-eqb, ne_eqb, le-leb}
use Rattle.model.specs.Lists.{all}
use Rattle.model.specs.Sound.{ordered}
use Rattle.group.specs.declared.Slot.{Slot}
use Rattle.group.specs.Cutting.{front, behind, cut, climbs}
use Rattle.group.specs.Reading.{placed_of}
use Rattle.group.specs.Checking.{end_of, in_place, in_places}
use Rattle.group.proofs.Cutting.{front_same, behind_same}

-- the same tests in another order
inner : (a c o g : Bool) → (a && ((c && o) && g)) ≡ ((c && (a && o)) && g)
inner true c o g = refl
inner false true o g = refl
inner false false o g = refl

outer : (u c o g : Bool) → ((u || false) && ((c && o) && g)) ≡ ((((u || false) && c) && true) && (o && g))
outer true true o g = refl
outer true false o g = refl
outer false c o g = refl

module _ (w : ℕ → ℕ) where
  -- what the places say of slots behind level n, whose records are free from offset `from` on
  abbrev Split : ℕ → ℕ → List Slot → Type 0
  Split n from l = in_places (suc n) from l ≡ ((climbs (suc n) (map (placed_of w) l) && ordered from (front n (map (placed_of w) l))) && all (ordered 0) (behind n (map (placed_of w) l)))

  split : (n from : ℕ) (l : List Slot) → Split n from l
  unfolding in_places in_place climbs front behind ordered all
  split n from [] = refl
  split n from (s ∷ l) = go (eqb s.level n) refl (split n (suc (end_of s.held)) l) (split s.level (suc (end_of s.held)) l)
    where
      go : (t : Bool) → eqb s.level n ≡ t → Split n (suc (end_of s.held)) l → Split s.level (suc (end_of s.held)) l → Split n from (s ∷ l)
      go true e ih jh =
          let q : s.level ≡ n = eqb-true _ _ e in
          let u : eqb n (suc n) ≡ false = ne_eqb n (suc n) (λ f. omega arith) in
          let v : eqb (suc n) (suc n) ≡ true = eq-eqb (suc n) (suc n) refl in
          rw (front_same n (placed_of w s) (map (placed_of w) l) q, behind_same n (placed_of w s) (map (placed_of w) l) q, q, u, v, ih)
          (inner (leb from s.held.start) (climbs (suc n) (map (placed_of w) l)) (ordered (suc (end_of s.held)) (front n (map (placed_of w) l))) (all (ordered 0) (behind n (map (placed_of w) l))))
      go false e ih jh =
          let u : eqb (suc s.level) (suc n) ≡ false = ne_eqb (suc s.level) (suc n) (λ f. let q : s.level ≡ n = omega arith in eqb-false _ _ e q) in
          let v : leb 0 s.held.start ≡ true = le-leb 0 s.held.start (omega arith) in
          rw (e, front, behind, u, v, jh)
          (outer (eqb s.level (suc n)) (climbs (suc s.level) (map (placed_of w) l)) (ordered (suc (end_of s.held)) (front s.level (map (placed_of w) l))) (all (ordered 0) (behind s.level (map (placed_of w) l))))

  pub places_split : (l : List Slot) → in_places 0 0 l ≡ (climbs 0 (map (placed_of w) l) && all (ordered 0) (cut (map (placed_of w) l)))
  unfolding in_places in_place climbs cut ordered all
  places_split [] = refl
  places_split (s ∷ l) =
      let u : eqb (suc s.level) 0 ≡ false = ne_eqb (suc s.level) 0 (λ f. omega arith) in
      let v : leb 0 s.held.start ≡ true = le-leb 0 s.held.start (omega arith) in
      rw (u, v, split s.level (suc (end_of s.held)) l)
      (top (eqb s.level 0) (climbs (suc s.level) (map (placed_of w) l)) (ordered (suc (end_of s.held)) (front s.level (map (placed_of w) l))) (all (ordered 0) (behind s.level (map (placed_of w) l))))
    where
      top : (u c o g : Bool) → ((u || false) && ((c && o) && g)) ≡ (((u || false) && c) && (o && g))
      top true true o g = refl
      top true false o g = refl
      top false c o g = refl
