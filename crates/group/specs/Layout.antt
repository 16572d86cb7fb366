-- docs/LAYOUT.md, 'A group': the places of a group's numbers in its 5,636 bytes, and what stands there. Assumes nothing.
use Rattle.std.specs.Prelude.{List, [], ◌∷◌, true, false, ℕ, zero, suc, ◌+◌, ◌*◌, eqb}
use Rattle.octets.specs.Little.{le16}
use Rattle.record.specs.declared.Record.{Record}
use Rattle.record.specs.Coding.{record_width, record_at}
use Rattle.group.specs.declared.Slot.{Slot}

-- the part `used`, and the part `owned`
abbrev pub used_place : ℕ
used_place = 0

abbrev pub flag_place : ℕ
flag_place = 2

-- "slot i in the 10 bytes at 4 + 10 × i", of 512
abbrev pub slots_place : ℕ
slots_place = 4

abbrev pub slot_width : ℕ
slot_width = 10

abbrev pub slot_place : ℕ → ℕ
slot_place i = slots_place + i * slot_width

-- the level stands behind the record
abbrev pub level_in_slot : ℕ
level_in_slot = record_width

abbrev pub level_place : ℕ → ℕ
level_place i = slot_place i + level_in_slot

-- "A logical page's group is its number divided by 256, its offset the remainder": how many offsets a group has
abbrev pub offsets : ℕ
offsets = 256

-- "owner of offset o in the 2 bytes at 5,124 + 2 × o"
abbrev pub owners_place : ℕ
owners_place = 5124

abbrev pub owner_width : ℕ
owner_width = 2

abbrev pub owner_place : ℕ → ℕ
owner_place o = owners_place + o * owner_width

-- "how many slots are used"
unfoldable pub used_of : List ℕ → ℕ
used_of b = le16 b used_place

-- "0: no offset is owned, whatever the owners hold; not 0: the owners are read"
unfoldable pub flag_of : List ℕ → ℕ
flag_of b = le16 b flag_place

-- slot i: its record's four numbers, and its level
unfoldable pub slot_record : List ℕ → ℕ → Record
slot_record b i = record_at b (slot_place i)

unfoldable pub slot_level : List ℕ → ℕ → ℕ
slot_level b i = le16 b (level_place i)

unfoldable pub slot_of : List ℕ → ℕ → Slot
slot_of b i = record { level = slot_level b i; held = slot_record b i }

-- the n slots from slot i on
unfoldable pub slots_from : List ℕ → ℕ → ℕ → List Slot
slots_from b i zero = []
slots_from b i (suc n) = slot_of b i ∷ slots_from b (suc i) n

-- the used slots
unfoldable pub slots_of : List ℕ → List Slot
slots_of b = slots_from b 0 (used_of b)

-- what stands in the entry of offset o: 0, or the start of its owner plus 1
unfoldable pub entry_of : List ℕ → ℕ → ℕ
entry_of b o = le16 b (owner_place o)

-- the entries of the n offsets from o on
unfoldable pub entries_from : List ℕ → ℕ → ℕ → List ℕ
entries_from b o zero = []
entries_from b o (suc n) = entry_of b o ∷ entries_from b (suc o) n

-- the entries of all offsets
abbrev pub entries_of : List ℕ → List ℕ
entries_of b = entries_from b 0 offsets

-- the owner of offset o: "while it is 0 nothing is owned, whatever the 512 bytes hold"
unfoldable pub owner_of : List ℕ → ℕ → ℕ
owner_of b o = elim (eqb (flag_of b) 0) [ true ↦ 0 | false ↦ entry_of b o ]

-- how many levels the first i slots have: one more than the number of the last one's
unfoldable pub levels_at : List ℕ → ℕ → ℕ
levels_at b zero = 0
levels_at b (suc i) = suc (slot_level b i)
