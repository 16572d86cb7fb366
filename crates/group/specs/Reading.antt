-- docs/LAYOUT.md, 'What the bytes are read as': the group that the bytes encode, if they encode one. Assumes nothing.
use Rattle.std.specs.Prelude.{◌≡◌, List, [], ◌∷◌, map, Bool, true, false, ◌&&◌, ◌||◌, ℕ, zero, suc, leb, eqb, length}
use Rattle.model.specs.Lists.{select}
use Rattle.model.specs.Record as model
use Rattle.model.specs.Record.{Kind, single, accurate, approximate, kind_of, is_approximate}
use Rattle.model.specs.Levels.{Group, group_limit}
use Rattle.model.specs.Sound.{sound_group}
use Rattle.record.specs.Read.{as_record}
use Rattle.group.specs.declared.Slot.{Slot}
use Rattle.group.specs.Layout.{offsets, slots_of, owner_of}
use Rattle.group.specs.Cutting.{Placed, climbs, cut}

-- the offsets whose owner, by w, names this start, ascending
unfoldable pub owned_by : (ℕ → ℕ) → ℕ → List ℕ
owned_by w start = select (λ o. eqb (w o) (suc start)) offsets 0

-- "An approximate record then owns, ascending, the offsets whose owner names its start; every other record owns none."
unfoldable pub owned_as : Kind → (ℕ → ℕ) → ℕ → List ℕ
owned_as single w start = []
owned_as (accurate d) w start = []
owned_as (approximate a) w start = owned_by w start

-- a slot's record, with the offsets that it owns by w, and its level
abbrev pub record_of : (ℕ → ℕ) → Slot → model.Record
record_of w s = as_record s.held (owned_as (kind_of s.held.word) w s.held.start)

abbrev pub placed_of : (ℕ → ℕ) → Slot → Placed
placed_of w s = record { level = s.level; item = record_of w s }

-- a slot holds an approximate record with this start
unfoldable pub starts_at : ℕ → Slot → Bool
starts_at start s = is_approximate (kind_of s.held.word) && eqb s.held.start start

unfoldable pub named : ℕ → List Slot → Bool
named start [] = false
named start (s ∷ l) = starts_at start s || named start l

-- an owner is 0, or "the start, plus 1, of an approximate record among the used slots"
unfoldable pub known : List Slot → ℕ → Bool
known l zero = true
known l (suc start) = named start l

-- the n numbers from x on pass the test
unfoldable pub every_from : (ℕ → Bool) → ℕ → ℕ → Bool
every_from t zero x = true
every_from t (suc n) x = t x && every_from t n (suc x)

-- what slots and owners have to be, to be a group's: 1, 2 and 3 of docs/LAYOUT.md
unfoldable pub coherent : List Slot → (ℕ → ℕ) → Bool
coherent l w =
    leb (length l) group_limit
    && climbs 0 (map (placed_of w) l)
    && every_from (λ o. known l (w o)) offsets 0

-- "Bytes that encode no group are read as a group with one empty level, which is not sound"
unfoldable pub group_or : Bool → List Slot → (ℕ → ℕ) → Group
group_or true l w = cut (map (placed_of w) l)
group_or false l w = [] ∷ []

-- "Bytes encode a group where all of these hold"
unfoldable pub encodes : List ℕ → Bool
encodes b = coherent (slots_of b) (owner_of b)

-- the group that the bytes are read as
unfoldable pub read_group : List ℕ → Group
read_group b = group_or (encodes b) (slots_of b) (owner_of b)

-- the bytes are read as a sound group: of some number, of some device
pub record SoundBytes (b : List ℕ) : Type 0 where
  pub pages : ℕ
  pub number : ℕ
  pub sound : sound_group pages number (read_group b) ≡ true
