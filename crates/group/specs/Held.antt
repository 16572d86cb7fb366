-- The bytes hold a group, whose level 0 may be empty: what a function that writes keeps from step to step. Assumes nothing.
use Rattle.std.specs.Prelude.{◌≡◌, List, [], ◌∷◌, map, true, false, ℕ, suc, ◌<◌}
use Rattle.model.specs.Lists.{elem}
use Rattle.model.specs.Record.{Record}
use Rattle.model.specs.Levels.{Group, listing}
use Rattle.record.specs.Read.{bare}
use Rattle.group.specs.declared.Slot.{Slot}
use Rattle.group.specs.Layout.{offsets, slots_of, owner_of}
use Rattle.group.specs.Cutting.{Placed, flat}

-- the slot that a record takes
abbrev pub slot_for : Placed → Slot
slot_for p = record { level = p.level; held = bare p.item }

-- the slots that a group takes, in listing order
abbrev pub slots_for : Group → List Slot
slots_for g = map slot_for (flat g)

-- the owner of offset o among the records: the start, plus 1, of the first that owns it, or 0
unfoldable pub owner_among : ℕ → List Record → ℕ
owner_among o [] = 0
owner_among o (r ∷ l) = elim (elem o r.owned) [ true ↦ suc r.start | false ↦ owner_among o l ]

pub record Held (b : List ℕ) (g : Group) : Type 0 where
  pub slots : slots_of b ≡ slots_for g
  pub owners : (o : ℕ) → o < offsets → owner_of b o ≡ owner_among o (listing g)
