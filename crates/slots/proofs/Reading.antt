-- The used slots and the owners as they stand in the bytes: which bytes they are read from, slot by slot. Assumes nothing.
use mathlib.Core.Path.{◌≡◌, refl, sym, ap, ◌∙◌}
use mathlib.Core.List.{List, map}
use mathlib.Core.Bool.{true, false}
use Prim.Native.Nat.{ℕ, zero, suc, ◌+◌, ◌*◌, ◌≤◌, ◌<◌}
use native.Mathlib.Omega.{arith}
use lib.Dec.{eqb}
use lib.ListN.{length}
use Rattle.model.specs.Device.{group_length}
use Rattle.model.specs.Levels.{group_limit}
use Rattle.octets.specs.Little.{le16}
use Rattle.octets.specs.Slots.{slot_at, slots}
use Rattle.octets.proofs.Same.{Same, same_first, same_inner, part_at}
use Rattle.octets.proofs.ReadWrite.{le16_same}
use Rattle.octets.proofs.SlotLaws.{slots_same}
use Rattle.record.specs.Coding.{record_at}
use Rattle.record.proofs.Coding.{record_same}
use Rattle.group.specs.declared.Slot.{Slot}
use Rattle.group.specs.Layout.{offsets, used_place, flag_place, slots_place, slot_width, slot_place, level_in_slot, owners_place, owner_width, used_of, flag_of, slot_record, slot_level, slot_of, slots_from, slots_of, entry_of, owner_of}
use Rattle.group.proofs.Slots.{length-slots_of}
use Rattle.slots.specs.View.{Room, Shows}

-- the bytes of all slots, and of all entries
abbrev pub slots_length : ℕ
slots_length = group_limit * slot_width

abbrev pub entries_length : ℕ
entries_length = offsets * owner_width

-- the bytes of slot i, and those of the first n slots
abbrev pub ten_at : List ℕ → ℕ → List ℕ
ten_at b i = slot_at slot_width slots_place b i

abbrev pub tens : ℕ → List ℕ → List (List ℕ)
tens n b = slots slot_width slots_place n b

-- the slot in ten bytes
abbrev pub slot_in : List ℕ → Slot
slot_in v = record { level = le16 v level_in_slot; held = record_at v 0 }

-- the slots are the array of ten bytes each, read one by one
pub slot_read : (b : List ℕ) (i : ℕ) → slot_of b i ≡ slot_in (ten_at b i)
unfolding slot_of slot_level slot_record slot_at
slot_read b i =
    let a : Same slot_width (ten_at b i) 0 b (slot_place i) = part_at slot_width b (slot_place i) in
    let level : le16 (ten_at b i) level_in_slot ≡ le16 b (slot_place i + level_in_slot) = le16_same (same_inner level_in_slot 2 (omega arith) a) in
    rw (level, record_same (same_first 8 (omega arith) a))

pub slots_from-read : (b : List ℕ) (i n : ℕ) → slots_from b i n ≡ map slot_in (slots slot_width (slot_place i) n b)
unfolding slots_from slots slot_at
slots_from-read b i zero = refl
slots_from-read b i (suc n) =
    let e : slot_place (suc i) ≡ slot_place i + slot_width = omega arith in
    let f : slot_place i + 0 * slot_width ≡ slot_place i = omega arith in
    rw (f, slot_read b i, slots_from-read b (suc i) n, e)

pub slots_of-read : (b : List ℕ) (n : ℕ) → used_of b ≡ n → slots_of b ≡ map slot_in (tens n b)
unfolding slots_of
slots_of-read b n e = rw e (slots_from-read b 0 n)

-- an owner is made of the flag and its entry
pub owner_same : (s t : List ℕ) (o : ℕ) → flag_of t ≡ flag_of s → entry_of t o ≡ entry_of s o → owner_of t o ≡ owner_of s o
unfolding owner_of
owner_same s t o f e =
    ap (λ (x : ℕ). elim (eqb x 0) [ true ↦ 0 | false ↦ entry_of t o ]) f
    ∙ ap (λ (x : ℕ). elim (eqb (flag_of s) 0) [ true ↦ 0 | false ↦ x ]) e

-- what is read from bytes that are alike: the number of used slots, the slots themselves, the flag, the owners
module _ {s t : List ℕ} where
  pub used_same : Same 2 t used_place s used_place → used_of t ≡ used_of s
  unfolding used_of
  used_same a = le16_same a

  pub slots_kept : Room s → length t ≡ group_length → Same 2 t used_place s used_place → Same slots_length t slots_place s slots_place → slots_of t ≡ slots_of s
  unfolding group_length
  slots_kept room lt a k =
      let n : used_of s ≤ group_limit = omega (arith, room.1, length-slots_of s) in
      slots_of-read t (used_of s) (used_same a)
      ∙ ap (map slot_in) (slots_same slot_width (used_of s) (same_first (used_of s * slot_width) (omega arith) k) (omega arith) (omega (arith, room.0)))
      ∙ sym (slots_of-read s (used_of s) refl)

  pub flag_same : Same 2 t flag_place s flag_place → flag_of t ≡ flag_of s
  unfolding flag_of
  flag_same a = le16_same a

  pub owners-kept : Same 2 t flag_place s flag_place → Same entries_length t owners_place s owners_place → (o : ℕ) → o < offsets → owner_of t o ≡ owner_of s o
  unfolding entry_of
  owners-kept a k o h = owner_same s t o (flag_same a) (le16_same (same_inner (o * owner_width) owner_width (omega arith) k))

-- bytes that show no more slots than a group has have room
pub shown-room : {l : List Slot} {w : ℕ → ℕ} (t : List ℕ) → Shows t l w → length l ≤ group_limit → Room t
shown-room t shows h = (shows.0, rw shows.1 h)
