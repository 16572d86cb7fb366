-- The used slots after one was taken out and another put in further behind: those between moved down by one. By induction on the
-- slots between, and on those before. Assumes nothing.
use mathlib.Core.Path.{◌≡◌, refl, ap, ◌∙◌}
use mathlib.Core.List.{List, map}
use Prim.Native.Nat.{ℕ, zero, suc, ◌+◌, ◌-◌, ◌*◌, ◌≤◌, ◌<◌}
use native.Mathlib.Omega.{arith}
use lib.ListN.{length, take, drop}
use lib.Seq.{take_all}
use mir.Syntax.{w32}
use mir.Val.{SFits}
use Rattle.model.specs.Lists.{store}
use Rattle.model.specs.Device.{group_length}
use Rattle.model.proofs.Lists.{length-store}
use Rattle.octets.specs.Slots.{moved, slot_at, slots, insert_at, remove_at}
use Rattle.octets.proofs.Same.{Same, same_first, same_inner, same_then, part_same, stored-below, stored-above, stored_at}
use Rattle.octets.proofs.Moves.{length_moved, moved_at, moved-below, moved-above}
use Rattle.octets.proofs.SlotLaws.{slots_same}
use Rattle.group.specs.declared.Slot.{Slot}
use Rattle.group.specs.Layout.{used_place, flag_place, owners_place, slots_place, slot_width, slot_place, used_of, slots_of, owner_of}
use Rattle.group.proofs.Slots.{length-slots_of}
use Rattle.slots.specs.Coding.{ten, InTen}
use Rattle.slots.specs.View.{Room, Shows}
use Rattle.slots.proofs.Maps.{map-insert_at, map-remove_at}
use Rattle.slots.proofs.Reading.{tens, slot_in, slots_of-read, used_same, owners-kept, entries_length}
use Rattle.slots.proofs.Ten.{length-ten, ten-back}

module _ (w : ℕ) (s u v : List ℕ) (long : length u ≡ length s) where
  -- k slots stand one place further down, then v, then the others as they were
  put-behind : (k n q : ℕ) → k ≤ n → q + suc n * w ≤ length s → Same (k * w) u q s (q + w) → take w (drop (q + k * w) u) ≡ v
      → Same ((n - k) * w) u (q + k * w + w) s (q + k * w + w) → slots w q (suc n) u ≡ insert_at k v (slots w (q + w) n s)
  unfolding slots slot_at insert_at
  put-behind zero n q h inside down here above =
      let z : q + 0 * w ≡ q = omega arith in
      let m : n - 0 ≡ n = omega arith in
      let first : take w (drop q u) ≡ v = rw z at here in
      let same : Same (n * w) u (q + w) s (q + w) = rw (z, m) at above in
      let others : slots w (q + w) n u ≡ slots w (q + w) n s = slots_same w n same (omega arith) (omega arith) in
      rw (z, first, others)
  put-behind (suc k) zero q h inside down here above = absurd (omega arith)
  put-behind (suc k) (suc n) q h inside down here above =
      let z : q + 0 * w ≡ q = omega arith in
      let y : q + w + 0 * w ≡ q + w = omega arith in
      let first : take w (drop q u) ≡ take w (drop (q + w + 0 * w) s) = rw y (part_same (same_first w (omega arith) down) (omega arith) (omega arith)) in
      let at : q + suc k * w ≡ q + w + k * w = omega arith in
      let left : suc n - suc k ≡ n - k = omega arith in
      let others : slots w (q + w) (suc n) u ≡ insert_at k v (slots w (q + w + w) n s) =
      put-behind k n (q + w) (omega arith) (omega arith) (same_inner w (k * w) (omega arith) down) (rw at at here) (rw (at, left) at above) in
      rw (z, first, others)

  -- behind i slots that are as they were
  shift_from : (i k n b q : ℕ) → i + k < n → q ≡ b + i * w → b + n * w ≤ length s → Same (i * w) u b s b → Same (k * w) u q s (q + w) → take w (drop (q + k * w) u) ≡ v
      → Same ((n - suc (i + k)) * w) u (q + k * w + w) s (q + k * w + w) → slots w b n u ≡ insert_at (i + k) v (remove_at i (slots w b n s))
  unfolding slots slot_at insert_at remove_at
  shift_from i k zero b q h e inside before down here above = absurd (omega arith)
  shift_from zero k (suc n) b q h e inside before down here above =
      let d : b ≡ q = omega arith in
      let left : suc n - suc (0 + k) ≡ n - k = omega arith in
      let z : 0 + k ≡ k = omega arith in
      rw (d, z) (put-behind k n q (omega arith) (omega arith) down here (rw left at above))
  shift_from (suc i) k (suc n) b q h e inside before down here above =
      let z : b + 0 * w ≡ b = omega arith in
      let first : take w (drop b u) ≡ take w (drop b s) = part_same (same_first w (omega arith) before) (omega arith) (omega arith) in
      let left : suc n - suc (suc i + k) ≡ n - suc (i + k) = omega arith in
      let others : slots w (b + w) n u ≡ insert_at (i + k) v (remove_at i (slots w (b + w) n s)) =
      shift_from i k n (b + w) q (omega arith) (omega arith) (omega arith) (same_inner w (i * w) (omega arith) before) down here (rw left at above) in
      let y : suc i + k ≡ suc (i + k) = omega arith in
      rw (z, y, first, others)

-- a slot is taken out and another put in before slot p: those between moved down, its ten bytes stored
module _ (s t u : List ℕ) (i p : ℕ) (v : Slot) (room : Room s) (behind : i < p) (used : p ≤ length (slots_of s)) (fits : InTen v) (signed : SFits w32 v.held.intercept) where
  pub shift-shows : t ≡ moved s (slot_place i) (slot_place i + slot_width) ((p - (i + 1)) * slot_width) → u ≡ store t (slot_place (p - 1)) (ten v)
      → Shows u (insert_at (p - 1) v (remove_at i (slots_of s))) (owner_of s)
  unfolding group_length
  shift-shows et eu =
      let q = slot_place i in
      let k = p - (i + 1) in
      let m = k * slot_width in
      let count : length (slots_of s) ≡ used_of s = length-slots_of s in
      let last : slot_place (p - 1) ≡ q + m = omega arith in
      let ten-long = length-ten v in
      let t_long : length t ≡ length s = rw et (length_moved s q (q + slot_width) m) in
      let stored : u ≡ store t (q + m) (ten v) = eu ∙ ap (λ (x : ℕ). store t x (ten v)) last in
      let u_long : length u ≡ length s = rw stored (length-store t (q + m) (ten v) ∙ t_long) in
      let below : (n x : ℕ) → x + n ≤ q → Same n u x s x = λ n x h. rw (stored, et) (same_then (stored-below n _ (q + m) (ten v) x (omega arith)) (moved-below s q (q + slot_width) m n x h)) in
      let above : (n x : ℕ) → q + m + slot_width ≤ x → Same n u x s x = λ n x h. rw (stored, et) (same_then (stored-above n _ (q + m) (ten v) x (omega arith)) (moved-above s q (q + slot_width) m (omega arith) n x (omega arith))) in
      let down : Same m u q s (q + slot_width) = rw (stored, et) (same_then (stored-below m _ (q + m) (ten v) q (omega arith)) (moved_at s q (q + slot_width) m (omega arith) (omega arith))) in
      let new : Same slot_width u (q + m) (ten v) 0 = rw stored (same_first slot_width (omega arith) (stored_at t (q + m) (ten v) (omega arith))) in
      let here : take slot_width (drop (q + m) u) ≡ ten v = part_same new (omega arith) (omega arith) ∙ take_all slot_width (ten v) (omega arith) in
      let place : i + k ≡ p - 1 = omega arith in
      let shifted : tens (used_of s) u ≡ insert_at (i + k) (ten v) (remove_at i (tens (used_of s) s)) =
      shift_from slot_width s u (ten v) u_long i k (used_of s) slots_place q (omega arith) (omega arith) (omega arith) (below (i * slot_width) slots_place (omega arith)) down here (above _ _ (omega arith)) in (
        u_long ∙ room.0,
        slots_of-read u (used_of s) (used_same (below 2 used_place (omega arith)))
            ∙ ap (map slot_in) shifted
            ∙ map-insert_at slot_in (i + k) (ten v) (remove_at i (tens (used_of s) s))
            ∙ rw (map-remove_at slot_in i (tens (used_of s) s), ten-back v fits signed, ← slots_of-read s (used_of s) refl, place),
        owners-kept (below 2 flag_place (omega arith)) (above entries_length owners_place (omega arith)),
      )
