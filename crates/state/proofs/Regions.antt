-- The regions don't meet, and fill the state; so a store inside one cell leaves every other, and what is read of them. Assumes nothing.
use mathlib.Core.Path.{◌≡◌, refl, sym, ap, ◌∙◌}
use mathlib.Core.List.{List, [], ◌∷◌}
use mathlib.Core.Logic.{◌≢◌, ◌⊎◌, inl, inr}
use Prim.Native.Nat.{ℕ, zero, suc, ◌+◌, ◌*◌, ◌≤◌, ◌<◌}
use native.Mathlib.Omega.{arith}
use native.Mathlib.Nat.{suc-mul, mul-le-mul_right}
use lib.ListN.{length, set, take, drop}
use Rattle.model.specs.Lists.{store}
use Rattle.model.specs.Device.{Device, Region, regions, regions_length, state_length}
use Rattle.model.proofs.Lists.{length-store}
use Rattle.octets.proofs.Stores.{store_all, part-store}
use Rattle.octets.proofs.Same.{Same, stored-below, stored-above, length_part, part_same}
use Rattle.front.specs.Tables.{list_from}
use Rattle.front.proofs.Tables.{beside, from_same, from_set}
use Rattle.state.specs.Regions.{region_at, place_at, cell_place, cell, read_region}

-- one cell behind the other
pub cells-before : (k n w : ℕ) → k < n → k * w + w ≤ n * w
cells-before k n w h = omega (arith, suc-mul k w, mul-le-mul_right w h)

-- A region begins where the one before it ends ..
place_next : (l : List Region) (r : ℕ) → place_at l (suc r) ≡ place_at l r + (region_at l r).cells * (region_at l r).width
unfolding place_at regions_length
place_next [] zero = refl
place_next [] (suc r) = refl
place_next (x ∷ l) zero = omega arith
place_next (x ∷ l) (suc r) = omega (arith, place_next l r)

-- .. so it lies before every later one ..
places_ascend : (l : List Region) (r q : ℕ) → r ≤ q → place_at l r ≤ place_at l q
unfolding place_at regions_length
places_ascend l zero q h = omega arith
places_ascend l (suc r) zero h = absurd (omega arith)
places_ascend [] (suc r) (suc q) h = omega arith
places_ascend (x ∷ l) (suc r) (suc q) h = omega (arith, places_ascend l r q (omega arith))

-- .. and the last ends where the state does.
places_inside : (l : List Region) (r : ℕ) → place_at l r ≤ regions_length l
unfolding place_at regions_length
places_inside l zero = omega arith
places_inside [] (suc r) = omega arith
places_inside (x ∷ l) (suc r) = omega (arith, places_inside l r)

module _ (d : Device) where
  abbrev cells : ℕ → ℕ
  cells r = (region_at (regions d) r).cells

  abbrev width : ℕ → ℕ
  width r = (region_at (regions d) r).width

  -- A cell lies in its region ..
  cell-before : (r k : ℕ) → k < cells r → cell_place d r k + width r ≤ place_at (regions d) (suc r)
  unfolding cell_place
  cell-before r k h = omega (arith, place_next (regions d) r, cells-before k (cells r) (width r) h)

  -- .. and so in the state.
  pub cell-inside : (r k : ℕ) → k < cells r → cell_place d r k + width r ≤ state_length d
  unfolding state_length
  cell-inside r k h = omega (arith, cell-before r k h, places_inside (regions d) (suc r))

  cell-low : (r k : ℕ) → place_at (regions d) r ≤ cell_place d r k
  unfolding cell_place
  cell-low r k = omega arith

  -- A cell behind the device numbers lies behind all of them.
  pub head_before : (r k : ℕ) → 1 ≤ r → place_at (regions d) 1 ≤ cell_place d r k
  head_before r k h = omega (arith, places_ascend (regions d) 1 r h, cell-low r k)

  -- Two cells don't meet: those of two regions, and two of one.
  regions-apart : (r q k j : ℕ) → k < cells r → r < q → cell_place d r k + width r ≤ cell_place d q j
  regions-apart r q k j h l = omega (arith, cell-before r k h, places_ascend (regions d) (suc r) q l, cell-low q j)

  cells-apart : (r k j : ℕ) → k < j → cell_place d r k + width r ≤ cell_place d r j
  unfolding cell_place
  cells-apart r k j h = omega (arith, cells-before k j (width r) h)

  -- bytes v stored in cell k of region r of a state
  module _ (b : List ℕ) (long : length b ≡ state_length d) (r k : ℕ) (v : List ℕ) (there : k < cells r) (size : length v ≡ width r) where
    abbrev stored : List ℕ
    stored = store b (cell_place d r k) v

    -- A cell that doesn't meet that one is as before ..
    apart_same : (q j : ℕ) → j < cells q → (cell_place d q j + width q ≤ cell_place d r k) ⊎ (cell_place d r k + width r ≤ cell_place d q j) → cell d q stored j ≡ cell d q b j
    unfolding cell
    apart_same q j h p =
        let room : cell_place d q j + width q ≤ length b = omega (arith, cell-inside q j h) in
        part_same (go p) (omega (arith, length-store b (cell_place d r k) v)) room
      where
        go : (cell_place d q j + width q ≤ cell_place d r k) ⊎ (cell_place d r k + width r ≤ cell_place d q j) → Same (width q) stored (cell_place d q j) b (cell_place d q j)
        go (inl l) = stored-below (width q) b (cell_place d r k) v (cell_place d q j) l
        go (inr l) = stored-above (width q) b (cell_place d r k) v (cell_place d q j) (omega arith)

    -- .. and that one has the bytes stored.
    own-cell : cell d r stored k ≡ v
    unfolding cell
    own-cell =
        let p : cell_place d r k ≡ cell_place d r k + 0 = omega arith in
        let room : cell_place d r k + width r ≤ length b = omega (arith, cell-inside r k there) in
        ap (λ (n : ℕ). take (width r) (drop (cell_place d r k) (store b n v))) p
        ∙ part-store (width r) (cell_place d r k) b 0 v
        ∙ store_all (take (width r) (drop (cell_place d r k) b)) v (size ∙ sym (length_part b (cell_place d r k) (width r) room))

    -- So a store in one region leaves what is read of another ..
    pub region_other : {A : Type 0} (f : List ℕ → A) (q : ℕ) → q ≢ r → read_region f d q stored ≡ read_region f d q b
    unfolding read_region
    region_other f q n = from_same _ _ 0 (cells q) (λ j a l. ap f (apart_same q j (omega arith) (sides j (omega arith) (beside q r n))))
      where
        sides : (j : ℕ) → j < cells q → (q < r) ⊎ (r < q) → (cell_place d q j + width q ≤ cell_place d r k) ⊎ (cell_place d r k + width r ≤ cell_place d q j)
        sides j h (inl l) = inl (regions-apart q r j k h l)
        sides j h (inr l) = inr (regions-apart r q k j there l)

    -- .. and changes the cell's own value in its own.
    pub region_set : {A : Type 0} (f : List ℕ → A) → read_region f d r stored ≡ set (read_region f d r b) k (f v)
    unfolding read_region
    region_set f =
        from_set (λ j. f (cell d r stored j)) (λ j. f (cell d r b j)) k (cells r)
        (λ j l n. ap f (apart_same r j l (sides j (beside j k n)))) there
        ∙ ap (λ (c : List ℕ). set (list_from (λ j. f (cell d r b j)) 0 (cells r)) k (f c)) own-cell
      where
        sides : (j : ℕ) → (j < k) ⊎ (k < j) → (cell_place d r j + width r ≤ cell_place d r k) ⊎ (cell_place d r k + width r ≤ cell_place d r j)
        sides j (inl l) = inl (cells-apart r j k l)
        sides j (inr l) = inr (cells-apart r k j l)
