-- The used slots, the flag and the entries after the flag or one entry was stored: the bytes of the others stay. Assumes nothing.
use mathlib.Core.Path.{◌≡◌, refl, sym, ◌∙◌}
use mathlib.Core.List.{List}
use mathlib.Core.Bool.{Bool, true, false}
use Prim.Native.Nat.{ℕ, ◌+◌, ◌≤◌, ◌<◌}
use native.Mathlib.Omega.{arith}
use lib.Dec.{ltb}
use borrow.Author.Tests.{ltb-true, ltb-false}
use lib.ListN.{length}
use Rattle.model.specs.Lists.{store}
use Rattle.model.specs.Device.{group_length}
use Rattle.model.proofs.Lists.{length-store}
use Rattle.octets.specs.Little.{bytes2}
use Rattle.octets.proofs.Same.{Same, stored-below, stored-above}
use Rattle.octets.proofs.ReadWrite.{length-bytes2, le16_same, le16-stored}
use Rattle.group.specs.Layout.{offsets, used_place, flag_place, slots_place, owners_place, owner_place, flag_of, slots_of, entry_of, owner_of}
use Rattle.group.proofs.Cases.{owner_none, owner-entry}
use Rattle.slots.specs.View.{Room, Shows, Owned, OwnerPut, OwnersPut}
use Rattle.slots.proofs.Reading.{slots_length, slots_kept, flag_same, owner_same}

-- the flag is stored
pub flag-stored : (s t : List ℕ) (v : ℕ) → Room s → v < 65536 → t ≡ store s flag_place (bytes2 v) → Room t × (slots_of t ≡ slots_of s) × (flag_of t ≡ v)
unfolding group_length flag_of
flag-stored s t v room small e =
    let two = length-bytes2 v in
    let long : length (store s flag_place (bytes2 v)) ≡ group_length = length-store s flag_place (bytes2 v) ∙ room.0 in
    let kept : slots_of (store s flag_place (bytes2 v)) ≡ slots_of s = slots_kept room long (stored-below 2 s flag_place (bytes2 v) used_place (omega arith)) (stored-above slots_length s flag_place (bytes2 v) slots_place (omega arith)) in
    rw e ((long, rw kept room.1), kept, le16-stored s flag_place v (omega arith) small)

-- the entry of offset o is stored
module _ (s : List ℕ) (o w : ℕ) (room : Room s) (inside : o < offsets) (small : w < 65536) where
  abbrev entered : List ℕ
  entered = store s (owner_place o) (bytes2 w)

  entry_other : (k : ℕ) → (k ≡ o → ⊥) → entry_of entered k ≡ entry_of s k
  unfolding entry_of
  entry_other k n = le16_same (go (ltb k o) refl)
    where
      go : (b : Bool) → ltb k o ≡ b → Same 2 entered (owner_place k) s (owner_place k)
      go true e = let l = ltb-true k o e in stored-below 2 s (owner_place o) (bytes2 w) (owner_place k) (omega arith)
      go false e =
          let l = ltb-false k o e in
          let two = length-bytes2 w in
          let m : o < k = omega arith in
          stored-above 2 s (owner_place o) (bytes2 w) (owner_place k) (omega arith)

  -- it is the owner where the flag is set
  pub owner-stored : (t : List ℕ) → Owned s → t ≡ store s (owner_place o) (bytes2 w) → OwnerPut s t o w
  unfolding group_length entry_of
  owner-stored t on e =
      let long : length entered ≡ group_length = length-store s (owner_place o) (bytes2 w) ∙ room.0 in
      let below : (n q : ℕ) → q + n ≤ owners_place → Same n entered q s q = λ n q h. stored-below n s (owner_place o) (bytes2 w) q (omega arith) in
      let kept : slots_of entered ≡ slots_of s = slots_kept room long (below 2 used_place (omega arith)) (below slots_length slots_place (omega arith)) in
      let flag : flag_of entered ≡ flag_of s = flag_same (below 2 flag_place (omega arith)) in
      rw e (record {
        room = (long, rw kept room.1);
        slots = kept;
        flag = flag;
        there = owner-entry entered o (λ z. omega arith) ∙ le16-stored s (owner_place o) w (omega arith) small;
        others = λ k n. owner_same s entered k flag (entry_other k n);
      })

-- the flag set where it was 0, and every owner cleared: no offset had one
pub opened : (s t u : List ℕ) → flag_of s ≡ 0 → Room t × (slots_of t ≡ slots_of s) × (flag_of t ≡ 1) → OwnersPut (λ o w. 0) t u 0 offsets → Shows u (slots_of s) (owner_of s) × Owned u
opened s t u off on put = (
  (put.room.0, put.slots ∙ on.1, λ o h. put.there o (omega arith) h ∙ sym (owner_none s o off)),
  omega (arith, put.flag, on.2),
)
