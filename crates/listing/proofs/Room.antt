-- A device that is taken lies inside the program's memory. Assumes nothing.
use mathlib.Core.Path.{◌≡◌, sym, ap}
use mathlib.Core.List.{List}
use mathlib.Core.Bool.{true, false, ◌&&◌}
use Prim.Native.Nat.{ℕ, ◌+◌, ◌*◌, ◌≤◌, ◌<◌}
use native.Mathlib.Omega.{arith}
use native.Mathlib.Nat.{mul-le-mul_left}
use borrow.Author.Tests.{leb-true, le-leb, lt-leb}
use lib.Dec.{leb}
use lib.ListN.{length, take}
use Rattle.model.specs.Device.{Device, within_limits, group_count, marks_count, entries_per_page, names_per_page, entries_per_block, spare_length, head_length, count_length, marks_length, group_length, regions, regions_length, state_length}
use Rattle.model.proofs.Bools.{and_l, and_r}
use Rattle.model.proofs.Limits.{Limits, limits}
use Rattle.state.specs.Reading.{read_state}
use Rattle.listing.specs.Session.{takes_device}
use Rattle.listing.specs.Memory.{InMemory, held_by}
use Rattle.listing.specs.Sizes.{block_room, page_room, plan_room, spare_room, state_room}

-- The lengths that a device uses lie inside.
pub record Inside (d : Device) : Type 0 where
  pub state : state_length d ≤ state_room
  pub spare : spare_length d ≤ spare_room
  pub blocks : d.M ≤ block_room
  pub pages : d.B ≤ plan_room

module _ (d : Device) where
  -- a device outside the limits is not taken
  pub not_within : within_limits d ≡ false → takes_device d ≡ false
  unfolding takes_device
  not_within e = rw e

  -- nor one with more than 1,024 logical pages
  pub many-pages : within_limits d ≡ true → page_room < d.N → takes_device d ≡ false
  unfolding takes_device
  many-pages e h = rw (e, lt-leb d.N page_room h)

  -- of the others the spare entries decide
  pub entries_decide : within_limits d ≡ true → d.N ≤ page_room → takes_device d ≡ leb (spare_length d) spare_room
  unfolding takes_device
  entries_decide e h = rw (e, le-leb d.N page_room h)

  -- a device that is taken is within the limits
  pub taken-within : takes_device d ≡ true → within_limits d ≡ true
  unfolding takes_device
  taken-within t = and_l (within_limits d) (leb d.N page_room && leb (spare_length d) spare_room) t

  -- it has at most 1,024 logical pages
  taken-pages : takes_device d ≡ true → d.N ≤ page_room
  unfolding takes_device
  taken-pages t = leb-true d.N page_room (and_l (leb d.N page_room) (leb (spare_length d) spare_room) (and_r (within_limits d) (leb d.N page_room && leb (spare_length d) spare_room) t))

  -- and at most 8,192 spare entries
  taken-entries : takes_device d ≡ true → spare_length d ≤ spare_room
  unfolding takes_device
  taken-entries t = leb-true (spare_length d) spare_room (and_r (leb d.N page_room) (leb (spare_length d) spare_room) (and_r (within_limits d) (leb d.N page_room && leb (spare_length d) spare_room) t))

  -- each block has at least 4 spare entries
  four-entries : Limits d → d.M * 4 ≤ spare_length d
  unfolding spare_length entries_per_block entries_per_page names_per_page
  four-entries l =
      let one : 1 ≤ 2 * d.g + 1 = omega arith in
      let four : 4 ≤ d.B * (2 * d.g + 1) = omega (arith, l.least_B, mul-le-mul_left d.B one) in
      mul-le-mul_left d.M four

  -- 1,024 logical pages have 128 bytes of marks, and are 4 groups
  few-marks : d.N ≤ page_room → marks_count d ≤ 128
  unfolding marks_count
  few-marks h = omega arith

  few-groups : d.N ≤ page_room → group_count d ≤ 4
  unfolding group_count
  few-groups h = omega arith

  -- the longest state that is taken
  state_room_lem : d.M ≤ block_room → marks_count d ≤ 128 → group_count d ≤ 4 → state_length d ≤ state_room
  unfolding state_length regions_length regions head_length count_length marks_length group_length
  state_room_lem h m k = omega arith

  -- those of a device that is taken do
  pub inside : takes_device d ≡ true → Inside d
  inside t =
      let l : Limits d = limits d (taken-within t) in
      let blocks : d.M ≤ block_room = omega (arith, four-entries l, taken-entries t) in
      record { state = state_room_lem blocks (few-marks (taken-pages t)) (few-groups (taken-pages t)); spare = taken-entries t; blocks = blocks; pages = l.most_B }

  -- and the memory that holds it is ready
  pub room : (state spare : List ℕ) → takes_device d ≡ true → length state ≡ state_room → length spare ≡ spare_room
      → (read_state (take (state_length d) state)).device ≡ d → InMemory (held_by d) state spare
  room state spare t e f q =
      let i : Inside d = inside t in
      record {
        bytes = e;
        entries = f;
        state_used = i.state;
        spare_used = i.spare;
        blocks_used = i.blocks;
        pages_used = i.pages;
        blocks_read = sym (ap (λ (x : Device). x.M) q);
        pages_read = sym (ap (λ (x : Device). x.B) q);
      }
