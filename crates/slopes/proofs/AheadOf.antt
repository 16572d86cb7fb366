-- The offsets ahead of a place: none past the end or in another group, otherwise that page's and those ahead of the next place. Assumes nothing.
use mathlib.Core.Path.{◌≡◌, refl, sym, ◌∙◌, ap}
use mathlib.Core.List.{List, [], ◌∷◌}
use mathlib.Core.Bool.{true≢false, false≢true, Bool, true, false, not}
use Prim.Native.Nat.{ℕ, zero, suc, ◌+◌, ◌-◌, ◌/◌, ◌%◌, ◌≤◌, ◌<◌}
use native.Mathlib.Omega.{arith}
use native.Mathlib.Numerals.{add-one}
use lib.Dec.{ltb, eqb}
use lib.ListN.{length, get_or, drop, drop_of_length-le}
use lib.Seq.{drop-cons, drop-drop}
use borrow.Author.Tests.{ltb-true, ltb-false, eqb-true, eqb-false, eq-eqb, ne_eqb}
use Rattle.model.specs.Learning.{ahead}
use Rattle.model.specs.Sound.{is_empty}
use Rattle.slopes.specs.Places.{ahead_of, offsets_behind}

-- a page of group k stands at place j, its offset ahead of the others
pub record Goes (w : List ℕ) (k j : ℕ) : Type 0 where
  pub inside : j < length w
  pub group : get_or w j 0 / 256 ≡ k
  pub is : ahead_of w k j ≡ get_or w j 0 % 256 ∷ ahead_of w k (j + 1)

module _ (w : List ℕ) (k j : ℕ) where
  pub ahead_past : length w ≤ j → ahead_of w k j ≡ []
  unfolding ahead_of ahead
  ahead_past h = ap (ahead k) (drop_of_length-le w h)

  pub ahead_other : j < length w → (get_or w j 0 / 256 ≡ k → ⊥) → ahead_of w k j ≡ []
  unfolding ahead_of ahead
  ahead_other h n = ap (ahead k) (drop-cons w j 0 h) ∙ rw (ne_eqb _ _ n, ahead)

  pub ahead-goes : j < length w → get_or w j 0 / 256 ≡ k → Goes w k j
  unfolding ahead_of ahead
  ahead-goes h e = record {
    inside = h;
    group = e;
    is = ap (ahead k) (drop-cons w j 0 h) ∙ rw (eq-eqb _ _ e, ahead, add-one j);
  }

  -- where no offset is ahead
  pub ahead_none : is_empty (ahead_of w k j) ≡ true → ahead_of w k j ≡ []
  unfolding is_empty
  ahead_none h = go (ahead_of w k j) h
    where
      go : (l : List ℕ) → is_empty l ≡ true → l ≡ []
      go [] e = refl
      go (x ∷ l) e = absurd (false≢true e)

  -- where one is
  pub ahead_some : is_empty (ahead_of w k j) ≡ false → Goes w k j
  unfolding is_empty
  ahead_some h = go (ltb j (length w)) refl (eqb (get_or w j 0 / 256) k) refl
    where
      no : ahead_of w k j ≡ [] → ⊥
      no e = true≢false (sym (ap is_empty e) ∙ h)

      go : (s : Bool) → ltb j (length w) ≡ s → (t : Bool) → eqb (get_or w j 0 / 256) k ≡ t → Goes w k j
      go false e t f = absurd (no (ahead_past (ltb-false _ _ e)))
      go true e true f = ahead-goes (ltb-true _ _ e) (eqb-true _ _ f)
      go true e false f = absurd (no (ahead_other (ltb-true _ _ e) (eqb-false _ _ f)))

  -- the test, past the end and at a page
  pub ended-past : length w ≤ j → true ≡ is_empty (ahead_of w k j)
  unfolding is_empty
  ended-past h = sym (ap is_empty (ahead_past h))

  pub ended_at : j < length w → not (eqb (get_or w j 0 / 256) k) ≡ is_empty (ahead_of w k j)
  unfolding is_empty
  ended_at h = go (eqb (get_or w j 0 / 256) k) refl
    where
      go : (t : Bool) → eqb (get_or w j 0 / 256) k ≡ t → not t ≡ is_empty (ahead_of w k j)
      go true e = sym (ap is_empty (ahead-goes h (eqb-true _ _ e)).is)
      go false e = sym (ap is_empty (ahead_other h (eqb-false _ _ e)))

-- if none is ahead behind m pages, at most m are ahead
few : (k m : ℕ) (l : List ℕ) → ahead k (drop m l) ≡ [] → length (ahead k l) ≤ m
unfolding ahead
few k zero l e = rw e (omega arith)
few k (suc m) [] e = omega arith
few k (suc m) (x ∷ l) e = go (eqb (x / 256) k) refl (few k m l e)
  where
    go : (t : Bool) → eqb (x / 256) k ≡ t → length (ahead k l) ≤ m → length (ahead k (x ∷ l)) ≤ suc m
    go true f h = rw (f, ahead) (omega arith)
    go false f h = rw (f, ahead) (omega arith)

pub ahead-few : (w : List ℕ) (k i j : ℕ) → i ≤ j → ahead_of w k j ≡ [] → length (ahead_of w k i) ≤ j - i
unfolding ahead_of
ahead-few w k i j h e =
    let n : i + (j - i) ≡ j = omega arith in
    few k (j - i) (drop i w) (ap (ahead k) (drop-drop (j - i) i w) ∙ ap (λ (m : ℕ). ahead k (drop m w)) n ∙ e)

filled : (l : List ℕ) (n : ℕ) → n < length l → is_empty l ≡ false
unfolding is_empty
filled [] n h = absurd (let q : ⊥ = omega arith in q)
filled (x ∷ l) n h = refl

-- the offset n places on is that page's, which lies in the group
pub ahead_at : (w : List ℕ) (k j n : ℕ) → n < length (ahead_of w k j) → (get_or (ahead_of w k j) n 0 ≡ get_or w (j + n) 0 % 256) × (get_or w (j + n) 0 / 256 ≡ k)
ahead_at w k j zero h =
    let g : Goes w k j = ahead_some w k j (filled (ahead_of w k j) zero h) in
    let e : j + 0 ≡ j = omega arith in
    rw (e, g.is) (refl, g.group)
ahead_at w k j (suc n) h =
    let g : Goes w k j = ahead_some w k j (filled (ahead_of w k j) (suc n) h) in
    let e : j + suc n ≡ j + 1 + n = omega arith in
    let q : suc n < suc (length (ahead_of w k (j + 1))) = rw g.is at h in
    rw (e, g.is) (ahead_at w k (j + 1) n (omega arith))

-- the same of a place's own page and those behind it
pub behind_at : (w : List ℕ) (i n : ℕ) → n ≤ length (offsets_behind w i)
    → (get_or (get_or w i 0 % 256 ∷ offsets_behind w i) n 0 ≡ get_or w (i + n) 0 % 256) × (get_or w (i + n) 0 / 256 ≡ get_or w i 0 / 256)
unfolding offsets_behind
behind_at w i zero h = let e : i + 0 ≡ i = omega arith in rw e (refl, refl)
behind_at w i (suc n) h = let e : i + suc n ≡ i + 1 + n = omega arith in rw e (ahead_at w (get_or w i 0 / 256) (i + 1) n (omega arith))
