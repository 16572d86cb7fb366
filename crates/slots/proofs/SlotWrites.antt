-- The used slots and the owners after a slot was put, given another level, put in or taken out: the array's laws, with each
-- slot read from its ten bytes; the owners stand behind the array. Assumes nothing.
use mathlib.Core.Path.{◌≡◌, refl, sym, ap, ◌∙◌}
use mathlib.Core.List.{List, map}
use Prim.Native.Nat.{ℕ, ◌+◌, ◌-◌, ◌*◌, ◌≤◌, ◌<◌}
use native.Mathlib.Omega.{arith}
use lib.ListN.{length, get_or}
use mir.Syntax.{w32}
use mir.Val.{SFits}
use Rattle.model.specs.Lists.{store}
use Rattle.model.specs.Device.{group_length}
use Rattle.model.specs.Levels.{group_limit}
use Rattle.model.proofs.Lists.{length-store}
use Rattle.octets.specs.Little.{bytes2}
use Rattle.octets.specs.Slots.{moved, insert_at, remove_at}
use Rattle.octets.proofs.Stores.{store_all}
use Rattle.octets.proofs.Same.{stored-below, stored-above}
use Rattle.octets.proofs.ReadWrite.{length-bytes2, le16-stored}
use Rattle.octets.proofs.Moves.{length_moved, moved-below, moved-above}
use Rattle.octets.proofs.SlotLaws.{length-slot_at, slots_same, slots_open, slots_close, slots-store}
use Rattle.group.specs.declared.Slot.{Slot}
use Rattle.group.specs.Layout.{offsets, used_place, flag_place, slots_place, slot_width, slot_place, level_in_slot, level_place, owners_place, used_of, slots_from, slots_of, owner_of}
use Rattle.group.specs.Answers.{no_slot}
use Rattle.group.proofs.Slots.{length-slots_of, get_or-slots_of}
use Rattle.slots.specs.Coding.{ten, InTen}
use Rattle.slots.specs.View.{Room, Shows}
use Rattle.slots.specs.Edits.{replace_at, at_level}
use Rattle.slots.proofs.Maps.{map-set, map-insert_at, map-remove_at}
use Rattle.slots.proofs.Reading.{entries_length, ten_at, tens, slot_in, slot_read, slots_from-read, slots_of-read, used_same, owners-kept}
use Rattle.slots.proofs.Ten.{length-ten, ten-back, level-over}

-- a store in the array of slots
module _ (s : List ℕ) (p : ℕ) (vs : List ℕ) (low : slots_place ≤ p) (high : p + length vs ≤ owners_place) where
  used-past : used_of (store s p vs) ≡ used_of s
  used-past = used_same (stored-below 2 s p vs used_place (omega arith))

  owners-past : (o : ℕ) → o < offsets → owner_of (store s p vs) o ≡ owner_of s o
  owners-past = owners-kept (stored-below 2 s p vs flag_place (omega arith)) (stored-above entries_length s p vs owners_place (omega arith))

-- a move in the array of slots
owners-moved : (s : List ℕ) (p q n : ℕ) → slots_place ≤ p → p + n ≤ owners_place → q + n ≤ length s → (o : ℕ) → o < offsets → owner_of (moved s p q n) o ≡ owner_of s o
owners-moved s p q n low high inside = owners-kept (moved-below s p q n 2 flag_place (omega arith)) (moved-above s p q n inside entries_length owners_place (omega arith))

-- a store inside the ten bytes of slot i, at the k-th of them
module _ (s : List ℕ) (i k : ℕ) (vs : List ℕ) (room : Room s) (used : i < length (slots_of s)) (inside : k + length vs ≤ slot_width) where
  pub slot-stored : Shows (store s (slot_place i + k) vs) (replace_at i (slot_in (store (ten_at s i) k vs)) (slots_of s)) (owner_of s)
  unfolding group_length
  slot-stored =
      let n : length (slots_of s) ≡ used_of s = length-slots_of s in
      let low : slots_place ≤ slot_place i + k = omega arith in
      let high : slot_place i + k + length vs ≤ owners_place = omega arith in (
        length-store s (slot_place i + k) vs ∙ room.0,
        slots_of-read (store s (slot_place i + k) vs) (used_of s) (used-past s (slot_place i + k) vs low high)
            ∙ ap (map slot_in) (slots-store slot_width slots_place (used_of s) s i k vs inside (omega arith) (omega arith))
            ∙ map-set slot_in (tens (used_of s) s) i (store (ten_at s i) k vs)
            ∙ rw (slots_of-read s (used_of s) refl),
        owners-past s (slot_place i + k) vs low high,
      )

-- a slot is put: all its ten bytes are stored
module _ (s t : List ℕ) (i : ℕ) (v : Slot) (room : Room s) (used : i < length (slots_of s)) (fits : InTen v) (signed : SFits w32 v.held.intercept) where
  pub put-shows : t ≡ store s (slot_place i) (ten v) → Shows t (replace_at i v (slots_of s)) (owner_of s)
  unfolding group_length
  put-shows e =
      let long = length-ten v in
      let here : length (ten_at s i) ≡ slot_width = length-slot_at slot_width slots_place s i (omega arith) in
      let first : slot_place i ≡ slot_place i + 0 = omega arith in
      let put : slot_in (store (ten_at s i) 0 (ten v)) ≡ v = ap slot_in (store_all (ten_at s i) (ten v) (long ∙ sym here)) ∙ ten-back v fits signed in
      rw (e ∙ ap (λ (p : ℕ). store s p (ten v)) first) (rw put at (slot-stored s i 0 (ten v) room used (omega arith)))

-- a slot gets another level: the last two of them are
module _ (s t : List ℕ) (i n : ℕ) (room : Room s) (used : i < length (slots_of s)) (small : n < 65536) where
  pub relevel-shows : t ≡ store s (level_place i) (bytes2 n) → Shows t (replace_at i (at_level n (get_or (slots_of s) i no_slot)) (slots_of s)) (owner_of s)
  unfolding group_length
  relevel-shows e =
      let two = length-bytes2 n in
      let here : length (ten_at s i) ≡ slot_width = length-slot_at slot_width slots_place s i (omega arith) in
      let was : get_or (slots_of s) i no_slot ≡ slot_in (ten_at s i) = get_or-slots_of s i used ∙ slot_read s i in
      rw (e, was) (rw (level-over (ten_at s i) n here small) at (slot-stored s i level_in_slot (bytes2 n) room used (omega arith)))

-- the number of used slots is stored
counted : (t : List ℕ) (n : ℕ) → length t ≡ group_length → n ≤ group_limit → Shows (store t used_place (bytes2 n)) (map slot_in (tens n t)) (owner_of t)
unfolding group_length used_of
counted t n long few =
    let two = length-bytes2 n in
    let size = length-store t used_place (bytes2 n) in (
      size ∙ long,
      slots_of-read (store t used_place (bytes2 n)) n (le16-stored t used_place n (omega arith) (omega arith))
          ∙ ap (map slot_in) (slots_same slot_width n (stored-above (n * slot_width) t used_place (bytes2 n) slots_place (omega arith)) (omega arith) (omega arith)),
      owners-kept (stored-above 2 t used_place (bytes2 n) flag_place (omega arith)) (stored-above entries_length t used_place (bytes2 n) owners_place (omega arith)),
    )

pub used-shows : (s t : List ℕ) (n : ℕ) → length s ≡ group_length → n ≤ group_limit → t ≡ store s used_place (bytes2 n) → Shows t (slots_from s 0 n) (owner_of s)
used-shows s t n long few e = let shows = counted s n long few in rw e (shows.0, shows.1 ∙ sym (slots_from-read s 0 n), shows.2)

-- a slot is put in: the slots from it on moved up, its ten bytes stored, one more counted
module _ (s t u w : List ℕ) (n i : ℕ) (v : Slot) (long : length s ≡ group_length) (used : n ≡ used_of s) (within : i ≤ n) (room : n < group_limit)
    (fits : InTen v) (signed : SFits w32 v.held.intercept) where
  pub insert-shows : t ≡ moved s (slot_place i + slot_width) (slot_place i) ((n - i) * slot_width) → u ≡ store t (slot_place i) (ten v)
      → w ≡ store u used_place (bytes2 (n + 1)) → Shows w (insert_at i v (slots_of s)) (owner_of s)
  unfolding group_length
  insert-shows et eu ew =
      let ten-long = length-ten v in
      let u_long : length u ≡ group_length = rw (eu, et) (length-store _ (slot_place i) (ten v) ∙ length_moved s (slot_place i + slot_width) (slot_place i) ((n - i) * slot_width) ∙ long) in
      let filled : tens (n + 1) u ≡ insert_at i (ten v) (tens n s) = rw (eu, et) (slots_open slot_width slots_place n s i (ten v) ten-long within (omega arith)) in
      let stored : (o : ℕ) → o < offsets → owner_of u o ≡ owner_of t o = rw eu (owners-past t (slot_place i) (ten v) (omega arith) (omega arith)) in
      let kept : (o : ℕ) → o < offsets → owner_of t o ≡ owner_of s o = rw et (owners-moved s (slot_place i + slot_width) (slot_place i) ((n - i) * slot_width) (omega arith) (omega arith) (omega arith)) in
      let shows = counted u (n + 1) u_long (omega arith) in
      rw ew (
        shows.0,
        shows.1 ∙ ap (map slot_in) filled ∙ map-insert_at slot_in i (ten v) (tens n s) ∙ rw (ten-back v fits signed, slots_of-read s n (sym used)),
        λ o h. shows.2 o h ∙ stored o h ∙ kept o h,
      )

-- a slot is taken out: the slots behind it moved down, one less counted
module _ (s t u : List ℕ) (n i : ℕ) (long : length s ≡ group_length) (used : n ≡ used_of s) (within : i < n) (room : n ≤ group_limit) where
  pub remove-shows : t ≡ moved s (slot_place i) (slot_place i + slot_width) ((n - (i + 1)) * slot_width) → u ≡ store t used_place (bytes2 (n - 1)) → Shows u (remove_at i (slots_of s)) (owner_of s)
  unfolding group_length
  remove-shows et eu =
      let t_long : length t ≡ group_length = rw et (length_moved s (slot_place i) (slot_place i + slot_width) ((n - (i + 1)) * slot_width) ∙ long) in
      let closed : tens (n - 1) t ≡ remove_at i (tens n s) = rw et (slots_close slot_width slots_place n s i within (omega arith)) in
      let kept : (o : ℕ) → o < offsets → owner_of t o ≡ owner_of s o = rw et (owners-moved s (slot_place i) (slot_place i + slot_width) ((n - (i + 1)) * slot_width) (omega arith) (omega arith) (omega arith)) in
      let shows = counted t (n - 1) t_long (omega arith) in
      rw eu (
        shows.0,
        shows.1 ∙ ap (map slot_in) closed ∙ map-remove_at slot_in i (tens n s) ∙ rw (slots_of-read s n (sym used)),
        λ o h. shows.2 o h ∙ kept o h,
      )
