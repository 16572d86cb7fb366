-- A discard on the page map: the logical page lies nowhere, every other where it lay. So the map's invariant is kept; and so it is where
-- logical pages are no longer discarded, of which it asks nothing. Assumes nothing.
use mathlib.Core.Path.{◌≡◌, refl, sym, ◌∙◌}
use mathlib.Core.List.{List}
use mathlib.Core.Option.{Option, none, some}
use mathlib.Core.Bool.{Bool, true, false}
use Prim.Native.Nat.{ℕ}
use lib.Dec.{eqb}
use Rattle.calls.specs.PageMap.{PageMap, map_clear, place_discard, map_discard}
use Rattle.calls.proofs.Refusing.{none_some}
use Rattle.calls.proofs.MapInvariant.{MapInv}

-- Another logical page lies where it lay ..
pub discard_other : (x : ℕ) (place : ℕ → Option ℕ) (y : ℕ) → eqb y x ≡ false → place_discard x place y ≡ place y
unfolding place_discard
discard_other x place y e = rw (e, place_discard) refl

-- .. and one that lies somewhere is another.
pub still_there : (x : ℕ) (place : ℕ → Option ℕ) (y p : ℕ) → place_discard x place y ≡ some p → (eqb y x ≡ false) × (place y ≡ some p)
unfolding place_discard
still_there x place y p e = go (eqb y x) refl
  where
    go : (t : Bool) → eqb y x ≡ t → (eqb y x ≡ false) × (place y ≡ some p)
    go true q = none_some (let z : place_discard x place y ≡ none = rw (q, place_discard) refl in sym z ∙ e)
    go false q = (q, sym (discard_other x place y q) ∙ e)

-- A discard keeps the invariant.
pub discard-map : (m : PageMap) → MapInv m → (x : ℕ) → MapInv (map_discard x m)
unfolding map_discard
discard-map m v x = record {
  limits = v.limits;
  counted = v.counted;
  written = λ y p h e. v.written y p h (still_there x m.place y p e).1;
  alone = λ y z p h k e f. v.alone y z p h k (still_there x m.place y p e).1 (still_there x m.place z p f).1;
}

-- So does clearing marks.
pub clear-map : (m : PageMap) → MapInv m → (batch : List ℕ) → MapInv (map_clear batch m)
unfolding map_clear
clear-map m v batch = record { limits = v.limits; counted = v.counted; written = v.written; alone = v.alone }
