-- A group's slots as one list: a record put into a level, or below level 0; the slot behind the first part of level 0, taken out and
-- replaced. By induction on the level. Assumes nothing.
use mathlib.Core.Path.{◌≡◌, refl, ◌∙◌, ap}
use mathlib.Core.List.{List, [], ◌∷◌, ◌++◌}
use Prim.Native.Nat.{ℕ, zero, suc, ◌+◌, ◌≤◌, ◌<◌}
use native.Mathlib.Omega.{arith}
use native.Mathlib.Nat.{add-zero, add-suc}
use lib.ListN.{length, set}
use Rattle.model.specs.Record.{Record}
use Rattle.model.specs.Levels.{Level, Group}
use Rattle.group.specs.Cutting.{Placed, flat_from, flat}
use Rattle.octets.specs.Slots.{insert_at, remove_at}
use Rattle.insertion.specs.Flat.{tag}
use Rattle.insertion.specs.Slots.{slot, held_at}

-- a record put into level n
pub insert-tag : (i n : ℕ) (u : Record) (l : Level) (q : List Placed) → i ≤ length l → insert_at i (slot n u) (tag n l ++ q) ≡ tag n (insert_at i u l) ++ q
unfolding insert_at
insert-tag zero n u l q h = refl
insert-tag (suc i) n u [] q h = absurd (omega arith)
insert-tag (suc i) n u (r ∷ l) q h = ap (λ (m : List Placed). slot n r ∷ m) (insert-tag i n u l q (omega arith))

-- one put in behind a level
pub insert-behind : (i : ℕ) (s : Placed) (n : ℕ) (l : Level) (q : List Placed) → insert_at (i + length l) s (tag n l ++ q) ≡ tag n l ++ insert_at i s q
unfolding insert_at
insert-behind i s n [] q = ap (λ (j : ℕ). insert_at j s q) (add-zero i)
insert-behind i s n (r ∷ l) q =
    ap (λ (j : ℕ). insert_at j s (slot n r ∷ (tag n l ++ q))) (add-suc i (length l)) ∙ ap (λ (m : List Placed). slot n r ∷ m) (insert-behind i s n l q)

-- the record behind the first part of level 0
pub flat-held : (p : Level) (x : Record) (b : Level) (g : Group) → held_at (length p) (flat ((p ++ (x ∷ b)) ∷ g)) ≡ x
unfolding flat_from
flat-held [] x b g = refl
flat-held (r ∷ p) x b g = flat-held p x b g

-- that record taken out
pub flat-remove : (p : Level) (x : Record) (b : Level) (g : Group) → remove_at (length p) (flat ((p ++ (x ∷ b)) ∷ g)) ≡ flat ((p ++ b) ∷ g)
unfolding flat_from remove_at
flat-remove [] x b g = refl
flat-remove (r ∷ p) x b g = ap (λ (m : List Placed). slot 0 r ∷ m) (flat-remove p x b g)

-- that record replaced
pub flat_replace : (p : Level) (x : Record) (b : Level) (g : Group) (y : Record) → set (flat ((p ++ (x ∷ b)) ∷ g)) (length p) (slot 0 y) ≡ flat ((p ++ (y ∷ b)) ∷ g)
unfolding flat_from
flat_replace [] x b g y = refl
flat_replace (r ∷ p) x b g y = ap (λ (m : List Placed). slot 0 r ∷ m) (flat_replace p x b g y)

-- its index is inside
pub flat-inside : (p : Level) (x : Record) (b : Level) (g : Group) → length p < length (flat ((p ++ (x ∷ b)) ∷ g))
unfolding flat_from
flat-inside [] x b g = omega arith
flat-inside (r ∷ p) x b g = omega (arith, flat-inside p x b g)
