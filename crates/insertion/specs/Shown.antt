-- The bytes hold a list of placed records: what the functions here keep from step to step. Assumes nothing.
use Rattle.std.specs.Prelude.{◌≡◌, List, map, true, false, ℕ, suc, ◌≤◌, ◌<◌, length}
use Rattle.model.specs.Device.{group_length}
use Rattle.model.specs.Lists.{all, elem}
use Rattle.model.specs.Record.{Record}
use Rattle.model.specs.Sound.{sound_record}
use Rattle.model.specs.Totals.{total, OwnedOnce}
use Rattle.group.specs.Layout.{slots_of, owner_of}
use Rattle.group.specs.Cutting.{Placed}
use Rattle.group.specs.Held.{slot_for}
use Rattle.insertion.specs.Slots.{records}

-- what a record adds to the owner of offset o: its start plus 1, if it owns it
unfoldable pub weight : ℕ → Record → ℕ
weight o r = elim (elem o r.owned) [ true ↦ suc r.start | false ↦ 0 ]

-- the bytes hold these records: their slots, and for each offset its owner; each record is sound in some group, and no
-- offset has two owners, so that an owner is a sum
pub record Shown (b : List ℕ) (l : List Placed) : Type 0 where
  pub size : length b ≡ group_length
  pub slots : slots_of b ≡ map slot_for l
  pub owners : (o : ℕ) → o < 256 → owner_of b o ≡ total (weight o) (records l)
  pub room : length l ≤ 512
  pub sound : all (sound_record 256 0) (records l) ≡ true
  pub once : OwnedOnce (records l)

-- the bytes hold some list of records
pub record Tidy (b : List ℕ) : Type 0 where
  pub list : List Placed
  pub shown : Shown b list
