-- A group's records with their levels' numbers, one after the other, and the levels that such a list is cut into. Assumes nothing.
use Rattle.std.specs.Prelude.{List, [], ◌∷◌, ◌++◌, map, Bool, true, false, ◌&&◌, ◌||◌, ℕ, suc, eqb}
use Rattle.model.specs.Record.{Record}
use Rattle.model.specs.Levels.{Level, Group}

-- a record and the number of its level, 0 newest
pub record Placed : Type 0 where
  pub level : ℕ
  pub item : Record

-- the records of level n
abbrev pub in_level : ℕ → Record → Placed
in_level n r = record { level = n; item = r }

-- the records of a group in listing order, where its levels are numbered from n on
unfoldable pub flat_from : ℕ → Group → List Placed
flat_from n [] = []
flat_from n (l ∷ g) = map (in_level n) l ++ flat_from (suc n) g

abbrev pub flat : Group → List Placed
flat g = flat_from 0 g

-- the records at the front of the list that have level n
unfoldable pub front : ℕ → List Placed → Level
front n [] = []
front n (p ∷ l) = elim (eqb p.level n) [ true ↦ p.item ∷ front n l | false ↦ [] ]

-- the levels behind those
unfoldable pub behind : ℕ → List Placed → Group
behind n [] = []
behind n (p ∷ l) = elim (eqb p.level n) [ true ↦ behind n l | false ↦ (p.item ∷ front p.level l) ∷ behind p.level l ]

-- the list cut into levels: a new one where the number changes
unfoldable pub cut : List Placed → Group
cut [] = []
cut (p ∷ l) = (p.item ∷ front p.level l) ∷ behind p.level l

-- "the level starts at 0 and goes up by 0 or 1": after n levels the next record is in the last of them or opens another
unfoldable pub climbs : ℕ → List Placed → Bool
climbs n [] = true
climbs n (p ∷ l) = (eqb p.level n || eqb (suc p.level) n) && climbs (suc p.level) l
