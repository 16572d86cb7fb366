-- Room for records in a group: it is compacted where they would be too many, and then has room. So records are taken in one by one,
-- each where there is room for those left. Assumes nothing.
use mathlib.Core.Path.{◌≡◌, refl, sym, ap}
use mathlib.Core.List.{List, [], ◌∷◌}
use mathlib.Core.Bool.{Bool, true, false}
use Prim.Native.Nat.{ℕ, suc, ◌+◌, ◌≤◌, ◌<◌}
use native.Mathlib.Omega.{arith}
use lib.Dec.{ltb}
use lib.ListN.{length}
use borrow.Author.Tests.{lt-ltb, le-ltb, ltb-false}
use Rattle.model.specs.Record.{Record}
use Rattle.model.specs.Levels.{Group, record_count, insert, insert_all, compact, take_in}
use Rattle.model.specs.Sound.{sound_group}
use Rattle.model.proofs.RecordCount.{insert-count, compact-count}
use Rattle.model.proofs.SoundGroup.{compact-sound, group-parts}
use Rattle.writing.specs.Taking.{with_room}

module _ (n : ℕ) (g : Group) where
  -- n records fit, or they don't
  pub room-plain : record_count g + n ≤ 512 → with_room n g ≡ g
  unfolding with_room
  room-plain h = rw (le-ltb 512 (record_count g + n) h, with_room)

  pub room-compact : 512 < record_count g + n → with_room n g ≡ compact g
  unfolding with_room
  room-compact h = rw (lt-ltb 512 (record_count g + n) h, with_room)

  -- then they do
  pub room_fits : n ≤ 256 → record_count (with_room n g) + n ≤ 512
  unfolding with_room
  room_fits few = go (ltb 512 (record_count g + n)) refl
    where
      go : (t : Bool) → ltb 512 (record_count g + n) ≡ t → record_count (with_room n g) + n ≤ 512
      go true e = rw (e, with_room) (omega (arith, compact-count g))
      go false e = rw (e, with_room) (ltb-false 512 (record_count g + n) e)

  pub room-sound : (N k : ℕ) → sound_group N k g ≡ true → sound_group N k (with_room n g) ≡ true
  unfolding with_room
  room-sound N k h = go (ltb 512 (record_count g + n)) refl
    where
      go : (t : Bool) → ltb 512 (record_count g + n) ≡ t → sound_group N k (with_room n g) ≡ true
      go true e = rw (e, with_room) (compact-sound N k g h)
      go false e = rw (e, with_room) h

-- A sound group that takes in nothing stays.
pub takes_none : (N k : ℕ) (g : Group) → sound_group N k g ≡ true → take_in [] g ≡ g
unfolding take_in with_room insert_all
takes_none N k g h = room-plain 0 g (omega (arith, (group-parts N k g h).limit))

-- The first record is inserted where there is room for all; the others are taken in then.
pub takes_first : (r : Record) (rs : List Record) (g : Group) → suc (length rs) ≤ 256 → take_in (r ∷ rs) g ≡ take_in rs (insert r (with_room (suc (length rs)) g))
unfolding take_in with_room insert_all
takes_first r rs g few =
    let roomy : Group = with_room (suc (length rs)) g in
    ap (insert_all rs) (sym (room-plain (length rs) (insert r roomy) (omega (arith, insert-count r roomy, room_fits (suc (length rs)) g few))))
