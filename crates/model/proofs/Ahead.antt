-- The pages that a run can take: the first ones, as far as they lie in one group, seen by their offsets. Assumes nothing.
use mathlib.Core.Path.{◌≡◌, refl, sym, ◌∙◌, ap, subst}
use mathlib.Core.List.{List, [], ◌∷◌}
use mathlib.Core.Bool.{Bool, true, false}
use Prim.Native.Nat.{ℕ, zero, suc, ◌+◌, ◌*◌, ◌-◌, ◌/◌, ◌≤◌, ◌<◌, suc-le-suc}
use native.Mathlib.Omega.{arith}
use lib.Dec.{eqb}
use lib.ListN.{length, get_or, take}
use lib.Seq.{get_or-take, length-take-le, ext_get_or}
use borrow.Author.Tests.{eqb-true, eq-eqb}
use Rattle.model.specs.Lists.{elem}
use Rattle.model.specs.Device.{group_of, offset_of}
use Rattle.model.specs.Learning.{ahead}
use Rattle.model.specs.Demand2.{OneGroup, offsets}
use Rattle.model.proofs.Bools.{iff_bool}
use Rattle.model.proofs.Lists.{Asc, end, next, At, elem_at}
use Rattle.model.proofs.Parts.{Below, elem-take}

-- The offsets ahead are at most as many as the pages ..
ahead-inside : (k : ℕ) (l : List ℕ) → length (ahead k l) ≤ length l
unfolding ahead
ahead-inside k [] = omega arith
ahead-inside k (x ∷ l) = go (eqb (group_of x) k) refl (ahead-inside k l)
  where
    go : (t : Bool) → eqb (group_of x) k ≡ t → length (ahead k l) ≤ length l → length (ahead k (x ∷ l)) ≤ length (x ∷ l)
    go true e h = rw (e, ahead) (omega arith)
    go false e h = rw (e, ahead) (omega arith)

-- .. as many as the first pages that lie in the group ..
ahead_most : (k : ℕ) (l : List ℕ) (n : ℕ) → n ≤ length l → ((i : ℕ) → i < n → group_of (get_or l i 0) ≡ k) → n ≤ length (ahead k l)
unfolding ahead
ahead_most k l zero h f = omega arith
ahead_most k [] (suc n) h f = absurd (omega arith)
ahead_most k (x ∷ l) (suc n) h f =
    rw (eq-eqb (group_of x) k (f 0 (omega arith)), ahead) (suc-le-suc (ahead_most k l n (omega arith) (λ i m. f (suc i) (omega arith))))

-- .. and those of these pages.
ahead_at : (k : ℕ) (l : List ℕ) (i : ℕ) → i < length (ahead k l)
    → (get_or (ahead k l) i 0 ≡ offset_of (get_or l i 0)) × (group_of (get_or l i 0) ≡ k)
unfolding ahead
ahead_at k [] i h = absurd (omega arith)
ahead_at k (x ∷ l) i h = go (eqb (group_of x) k) refl i h (ahead_at k l)
  where
    go : (t : Bool) → eqb (group_of x) k ≡ t → (i : ℕ) → i < length (ahead k (x ∷ l))
        → ((i : ℕ) → i < length (ahead k l) → (get_or (ahead k l) i 0 ≡ offset_of (get_or l i 0)) × (group_of (get_or l i 0) ≡ k))
        → (get_or (ahead k (x ∷ l)) i 0 ≡ offset_of (get_or (x ∷ l) i 0)) × (group_of (get_or (x ∷ l) i 0) ≡ k)
    go true e zero q ih = rw (e, ahead) (refl, eqb-true (group_of x) k e)
    go true e (suc i) q ih = rw (e, ahead) (ih i (omega (arith, rw (e, ahead) at q)))
    go false e i q ih = absurd (omega (arith, rw (e, ahead) at q))

ahead_asc : (k z : ℕ) {l : List ℕ} → Asc z l → 256 * k ≤ z → Asc (z - 256 * k) (ahead k l)
unfolding ahead
ahead_asc k z end h = end
ahead_asc k z (next {y = y} {l = l} q a) h = go (eqb (group_of y) k) refl (ahead_asc k (suc y) a (omega arith))
  where
    go : (t : Bool) → eqb (group_of y) k ≡ t → Asc (suc y - 256 * k) (ahead k l) → Asc (z - 256 * k) (ahead k (y ∷ l))
    go true e ih =
        let m : y / 256 ≡ k = eqb-true (group_of y) k e in
        let u : z - 256 * k ≤ offset_of y = omega arith in
        let v : suc y - 256 * k ≡ suc (offset_of y) = omega arith in
        rw (e, ahead) (next u (rw v at ih))
    go false e ih = rw (e, ahead) end

-- The first page's offset and those ahead of it ascend with the pages.
pub leading_asc : {z : ℕ} (x : ℕ) (l : List ℕ) → Asc z (x ∷ l) → Asc 0 (offset_of x ∷ ahead (group_of x) l)
leading_asc x l (next q a) =
    let u : 0 ≤ offset_of x = omega arith in
    let v : suc x - 256 * group_of x ≡ suc (offset_of x) = omega arith in
    next u (rw v at (ahead_asc (group_of x) (suc x) a (omega arith)))

-- xs lists the offsets of the first pages of l, as far as they lie in the first one's group.
pub record Leading (l xs : List ℕ) : Type 0 where
  pub inside : length xs ≤ length l
  pub offset : (i : ℕ) → i < length xs → get_or xs i 0 ≡ offset_of (get_or l i 0)
  pub grouped : (i : ℕ) → i < length xs → group_of (get_or l i 0) ≡ group_of (get_or l 0 0)
  pub most : (n : ℕ) → OneGroup l n → n ≤ length xs

-- The first page's offset and those ahead of it are these.
pub leading : (x : ℕ) (l : List ℕ) → Leading (x ∷ l) (offset_of x ∷ ahead (group_of x) l)
leading x l = record {
  inside = omega (arith, ahead-inside (group_of x) l);
  offset = λ i h. (at i h).0;
  grouped = λ i h. (at i h).1;
  most = λ n q. most n q.inside q.grouped;
}
  where
    most : (n : ℕ) → n ≤ length (x ∷ l) → ((i : ℕ) → i < n → group_of (get_or (x ∷ l) i 0) ≡ group_of x)
        → n ≤ suc (length (ahead (group_of x) l))
    most zero h f = omega arith
    most (suc n) h f = suc-le-suc (ahead_most (group_of x) l n (omega arith) (λ i m. f (suc i) (omega arith)))

    at : (i : ℕ) → i < suc (length (ahead (group_of x) l))
        → (get_or (offset_of x ∷ ahead (group_of x) l) i 0 ≡ offset_of (get_or (x ∷ l) i 0)) × (group_of (get_or (x ∷ l) i 0) ≡ group_of x)
    at zero h = (refl, refl)
    at (suc i) h = ahead_at (group_of x) l i (omega arith)

offsets-length : (l : List ℕ) → length (offsets l) ≡ length l
unfolding offsets
offsets-length [] = refl
offsets-length (x ∷ l) = ap suc (offsets-length l)

offsets_at_lem : (l : List ℕ) (i : ℕ) → get_or (offsets l) i 0 ≡ offset_of (get_or l i 0)
unfolding offsets
offsets_at_lem [] i = refl
offsets_at_lem (x ∷ l) zero = refl
offsets_at_lem (x ∷ l) (suc i) = offsets_at_lem l i

module _ (l xs : List ℕ) (c : Leading l xs) where
  -- They are offsets.
  pub leading_below : Below 256 xs
  leading_below o h =
      let a : At o xs = elem_at o xs h in
      omega (arith, sym a.here ∙ c.offset a.index a.inside)

  -- The pages of as many lie in one group ..
  pub leading_group : (n : ℕ) → 1 ≤ n → n ≤ length xs → OneGroup l n
  leading_group n h k = record { filled = h; inside = omega (arith, c.inside); grouped = λ i m. c.grouped i (omega arith) }

  -- .. of which each page is known by its offset.
  pub leading_page : (i : ℕ) → i < length xs → get_or l i 0 ≡ 256 * group_of (get_or l 0 0) + get_or xs i 0
  leading_page i h = omega (arith, c.offset i h, c.grouped i h)

  -- The first n of them are those of the first n pages ..
  pub leading_take : (n : ℕ) → n ≤ length xs → offsets (take n l) ≡ take n xs
  leading_take n h = ext_get_or 0 _ _ (size ∙ sym (length-take-le n xs h)) (λ i k. at i (omega (arith, size)))
    where
      size : length (offsets (take n l)) ≡ n
      size = offsets-length (take n l) ∙ length-take-le n l (omega (arith, c.inside))

      at : (i : ℕ) → i < n → get_or (offsets (take n l)) i 0 ≡ get_or (take n xs) i 0
      at i k = offsets_at_lem (take n l) i ∙ rw (get_or-take n l i 0 k, get_or-take n xs i 0 k) (sym (c.offset i (omega arith)))

  -- .. and a page of the group is one of these pages where its offset is one of theirs.
  pub leading_elem : (n y : ℕ) → n ≤ length xs → group_of y ≡ group_of (get_or l 0 0) → elem (offset_of y) (take n xs) ≡ elem y (take n l)
  leading_elem n y h g = iff_bool _ _ forth back
    where
      fits : n ≤ length l
      fits = omega (arith, c.inside)

      forth : elem (offset_of y) (take n xs) ≡ true → elem y (take n l) ≡ true
      forth q =
          let a : At (offset_of y) (take n xs) = elem_at (offset_of y) (take n xs) q in
          let j : ℕ = a.index in
          let b : j < n = omega (arith, a.inside, length-take-le n xs h) in
          let e : get_or xs j 0 ≡ offset_of y = sym (get_or-take n xs j 0 b) ∙ a.here in
          let v : get_or l j 0 ≡ y = omega (arith, e, g, leading_page j (omega (arith, b))) in
          subst (λ (m : ℕ). elem m (take n l) ≡ true) v (elem-take l n j b fits)

      back : elem y (take n l) ≡ true → elem (offset_of y) (take n xs) ≡ true
      back q =
          let a : At y (take n l) = elem_at y (take n l) q in
          let j : ℕ = a.index in
          let b : j < n = omega (arith, a.inside, length-take-le n l fits) in
          let e : get_or l j 0 ≡ y = sym (get_or-take n l j 0 b) ∙ a.here in
          let v : get_or xs j 0 ≡ offset_of y = c.offset j (omega (arith, b)) ∙ ap (λ (m : ℕ). offset_of m) e in
          subst (λ (m : ℕ). elem m (take n xs) ≡ true) v (elem-take xs n j b h)
