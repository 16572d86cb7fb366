-- Where the pages of a group end: at the batch's end, or where a page of the group and one of another are neighbours. Assumes nothing.
use mathlib.Core.Path.{◌≡◌, refl, sym, ◌∙◌}
use mathlib.Core.List.{List, [], nil≢cons}
use mathlib.Core.Bool.{Bool, true, false}
use Prim.Native.Nat.{ℕ, ◌+◌, ◌-◌, ◌/◌, ◌≤◌, ◌<◌}
use native.Mathlib.Omega.{arith}
use lib.Dec.{ltb, eqb}
use lib.ListN.{length, get_or, drop, length-drop}
use borrow.Author.Tests.{ltb-true, ltb-false, eqb-true, eqb-false, eq-eqb}
use Rattle.std.proofs.lemmas.List.{get_or-drop}
use Rattle.std.specs.List.Sorted.{IsPartitionedBy, IsPartitionPoint}
use Rattle.model.specs.Lists.{ascending}
use Rattle.model.proofs.Lists.{get_or_default}
use Rattle.learn.specs.Runs.{GroupEnd}
use Rattle.slopes.specs.Places.{page_at, ahead_of}
use Rattle.slopes.specs.declared.windows.Sought.{Sought}
use Rattle.slopes.proofs.AheadOf.{Goes, ahead_past, ahead_other, ahead-goes}
use Rattle.model.proofs.Ascent.{rises_to}

module _ (w : List ℕ) (i : ℕ) (asc : ascending w ≡ true) where
  -- a page between two of a group is of it
  pub between : (j q : ℕ) → i ≤ q → q ≤ j → j < length w → get_or w j 0 / 256 ≡ get_or w i 0 / 256 → get_or w q 0 / 256 ≡ get_or w i 0 / 256
  between j q h k m e = omega (arith, e, rises_to w i q asc h (omega arith), rises_to w q j asc k m)

  pub ends_last : i < length w → get_or w (length w - 1) 0 / 256 ≡ get_or w i 0 / 256 → GroupEnd w i (length w)
  ends_last h e =
      let n : length w ≤ length w = omega arith in
      record {
        inside = h;
        end = n;
        group = λ q k m. between (length w - 1) q k (omega arith) (omega arith) e;
        ended = ahead_past w _ _ n;
      }

  -- of the pages from place i on those of the group come first
  abbrev pub in_group : ℕ → Bool
  in_group x = eqb (x / 256) (get_or w i 0 / 256)

  here : (q : ℕ) → i ≤ q → get_or (drop i w) (q - i) 0 ≡ get_or w q 0
  here q h = let z : i + (q - i) ≡ q = omega arith in get_or-drop i w (q - i) 0 ∙ rw z

  first : IsPartitionedBy in_group (drop i w)
  first p q d h k e =
      let n : i + q < length w = omega (arith, length-drop i w) in
      let m : i + p < length w = omega arith in
      let f : eqb (get_or w (i + q) 0 / 256) (get_or w i 0 / 256) ≡ true = rw (get_or-drop i w q d, get_or_default w (i + q) d 0 n) at e in
      rw (get_or-drop i w p d, get_or_default w (i + p) d 0 m)
      (eq-eqb _ _ (between (i + q) (i + p) (omega arith) (omega arith) n (eqb-true _ _ f)))

  module _ (r : ℕ) (h : i < length w) (room : r ≤ length (drop i w))
      (parts : IsPartitionPoint (λ x. in_group x ≡ true) (λ x. in_group x ≡ false) (drop i w) r) where
    within : (q : ℕ) → i ≤ q → q < i + r → get_or w q 0 / 256 ≡ get_or w i 0 / 256
    within q k m = eqb-true _ _ (rw (here q k) at (parts.0 (q - i) 0 (omega arith) (omega arith)))

    behind : i + r < length w → get_or w (i + r) 0 / 256 ≡ get_or w i 0 / 256 → ⊥
    behind m =
        let z : i + r - i ≡ r = omega arith in
        eqb-false _ _ (rw (← z, here (i + r) (omega arith)) at (parts.1 r 0 (omega arith) (omega (arith, length-drop i w))))

    some : 1 ≤ r
    some = go (ltb 0 r) refl
      where
        go : (t : Bool) → ltb 0 r ≡ t → 1 ≤ r
        go true e = ltb-true 0 r e
        go false e =
            let z : i + r ≡ i = omega (arith, ltb-false 0 r e) in
            absurd (behind (omega arith) (rw z))

    ends : GroupEnd w i (i + r)
    ends = record {
      inside = omega (arith, some);
      end = omega (arith, length-drop i w);
      group = within;
      ended = go (ltb (i + r) (length w)) refl;
    }
      where
        go : (t : Bool) → ltb (i + r) (length w) ≡ t → ahead_of w (page_at w i / 256) (i + r) ≡ []
        go true e = let m : i + r < length w = ltb-true _ _ e in ahead_other w _ _ m (behind m)
        go false e = ahead_past w _ _ (ltb-false _ _ e)

  module _ (l : List ℕ) (e : l ≡ drop i w) where
    pub parted : IsPartitionedBy in_group l
    parted = rw e first

    pub ends_parted : (r : ℕ) → i < length w → r ≤ length l → IsPartitionPoint (λ x. in_group x ≡ true) (λ x. in_group x ≡ false) l r
        → GroupEnd w i (i + r)
    ends_parted r h room parts = ends r h (rw e at room) (rw e at parts)

  -- the pages of the group stand before its end
  pub before-end : (e j : ℕ) → GroupEnd w i e → i ≤ j → Goes w (get_or w i 0 / 256) j → j < e
  before-end e j g h t = go (ltb j e) refl
    where
      go : (s : Bool) → ltb j e ≡ s → j < e
      go true q = ltb-true _ _ q
      go false q =
          let k : e ≤ j = ltb-false _ _ q in
          let n = t.inside in
          let u = ahead-goes w _ e (omega arith) (between j e (omega (arith, g.inside)) k n t.group) in
          absurd (nil≢cons (sym g.ended ∙ u.is))

-- what is sought among
pub seeking_ends : (s : Sought) → GroupEnd s.written.now s.place s.end
seeking_ends s = let h = s.seeking in record { inside = h.inside; end = h.end; group = h.group; ended = h.ended }
