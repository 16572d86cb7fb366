-- A listing: slot after slot is stored, until the whole is; and the ways in which the call ends. Assumes nothing.
use mathlib.Core.Path.{◌≡◌, refl, sym, ap, ◌∙◌}
use mathlib.Core.List.{List, [], ◌∷◌, ◌++◌, map, flatten, append_assoc}
use mathlib.Core.Option.{none, some}
use mathlib.Core.Bool.{true, false}
use Prim.Native.Nat.{ℕ, suc, ◌+◌, ◌*◌, ◌≤◌, ◌<◌}
use native.Mathlib.Omega.{arith}
use native.Mathlib.Numerals.{add-one}
use lib.ListN.{length, get_or, drop, drop_of_length-le}
use lib.Seq.{drop-cons}
use Rattle.model.specs.Lists.{store}
use Rattle.model.specs.Device.{Device, group_count, group_length}
use Rattle.model.specs.Levels.{Level, Group, record_count}
use Rattle.model.specs.State.{State, group_at}
use Rattle.model.specs.Sound.{sound_group}
use Rattle.model.proofs.Lists.{store_nil}
use Rattle.calls.specs.Refusals.{Refusal, bad_length, not_sound, out_of_range, ◌when◌, first_refusal, wrong_length, opening}
use Rattle.calls.specs.Outcome.{with_out, listed, refused}
use Rattle.calls.specs.Compaction.{group_checks}
use Rattle.calls.specs.Listing.{record_bytes, level_bytes, group_bytes, listing_length, list_checks, list_done}
use Rattle.calls.specs.History.{list_call, lend, lent_to, checks_of, effect}
use Rattle.calls.proofs.Refusing.{goes_on_lem, front-refuses, others_decide, refuses_at, right-length, wrong_length_lem}
use Rattle.octets.specs.Little.{bytes2}
use Rattle.octets.proofs.Stores.{store_then}
use Rattle.record.specs.Coding.{eight}
use Rattle.group.specs.declared.Slot.{Slot}
use Rattle.group.specs.Layout.{slots_of}
use Rattle.group.specs.Answers.{no_slot}
use Rattle.group.specs.Reading.{read_group}
use Rattle.group.specs.Cutting.{Placed, in_level, flat_from}
use Rattle.group.specs.Held.{slot_for, slots_for}
use Rattle.group.proofs.Slots.{length-slots_of, few-used}
use Rattle.group.proofs.Holding.{length-slots_for, sound-held}
use Rattle.slots.specs.Coding.{ten}
use Rattle.slots.specs.View.{Room}
use Rattle.slots.proofs.Ten.{length-ten}
use Rattle.state.specs.Reading.{read_state}
use Rattle.state.specs.Ran.{listing_slices, Ran}
use Rattle.state.proofs.Refusing.{ran-refused, ran-accepted}
use Rattle.state.proofs.GroupChecks.{no_group, unsound_group, sound_group_lem}
use Rattle.group.proofs.Soundness.{sound-encodes}

-- the bytes of slots one after the other
abbrev pub tens : List Slot → List ℕ
tens l = flatten (map ten l)

-- the slots from slot i on, stored behind those before it
unfoldable pub listed_from : List ℕ → List Slot → ℕ → List ℕ
listed_from out l i = store out (i * 10) (tens (drop i l))

-- one more slot stored
pub listed_on : (l : List Slot) (i : ℕ) (all out out' : List ℕ) (v : Slot) → i < length l → v ≡ get_or l i no_slot → out' ≡ store out (i * 10) (ten v)
    → all ≡ listed_from out l i → all ≡ listed_from out' l (i + 1)
unfolding listed_from flatten
listed_on l i all out out' v h q e so =
    let p : (i + 1) * 10 ≡ i * 10 + length (ten v) = omega (arith, length-ten v) in
    so ∙ rw (e, p, drop-cons l i no_slot h, ← q, add-one i) (sym (store_then out (i * 10) (ten v) (tens (drop (suc i) l))))

-- all of them
pub listed_all : (l : List Slot) (i : ℕ) (all out : List ℕ) → length l ≤ i → all ≡ listed_from out l i → out ≡ all
unfolding listed_from flatten
listed_all l i all out h so = sym (so ∙ rw (drop_of_length-le l h) (store_nil out (i * 10)))

-- the bytes of a group's slots are document 01's of its records and levels
level-tens : (n : ℕ) (l : Level) (rest : List Placed) → tens (map slot_for (map (in_level n) l ++ rest)) ≡ level_bytes n l ++ tens (map slot_for rest)
unfolding level_bytes flatten ten eight record_bytes
level-tens n [] rest = refl
level-tens n (r ∷ l) rest =
    ap (λ (b : List ℕ). ten (slot_for (in_level n r)) ++ b) (level-tens n l rest)
    ∙ sym (append_assoc (record_bytes r ++ bytes2 n) (level_bytes n l) (tens (map slot_for rest)))

group-tens : (n : ℕ) (g : Group) → tens (map slot_for (flat_from n g)) ≡ group_bytes n g
unfolding flat_from group_bytes flatten
group-tens n [] = refl
group-tens n (l ∷ g) = level-tens n l (flat_from (suc n) g) ∙ ap (λ (b : List ℕ). level_bytes n l ++ b) (group-tens (suc n) g)

-- a sound group's bytes have room, and their slots are the group's
module _ (b : List ℕ) (N k : ℕ) (g : Group) (size : length b ≡ group_length) (read : read_group b ≡ g) (sound : sound_group N k g ≡ true) where
  sound_bytes : sound_group N k (read_group b) ≡ true
  sound_bytes = ap (sound_group N k) read ∙ sound

  pub part_room : Room b
  part_room = (size, omega (arith, length-slots_of b, few-used b (sound-encodes N k b sound_bytes)))

  part-slots : slots_of b ≡ slots_for g
  part-slots = (sound-held N k b sound_bytes).slots ∙ ap slots_for read

  pub part_count : length (slots_of b) ≡ record_count g
  part_count = ap length part-slots ∙ length-slots_for g

  pub part-listed : tens (slots_of b) ≡ group_bytes 0 g
  part-listed = ap tens part-slots ∙ group-tens 0 g

module _ (state spare : List ℕ) (k : ℕ) (out : List ℕ) where
  abbrev s : State
  s = read_state state

  refuses : (r : Refusal) → first_refusal (list_checks k (with_out out (lend s spare [] []))) ≡ some r → Ran (list_call k out) state spare (refused r) (listing_slices state spare out)
  unfolding checks_of lent_to lend
  refuses r e = ran-refused (list_call k out) state spare _ r e refl refl

  pub list-closed : (r : Refusal) → first_refusal (opening s) ≡ some r → Ran (list_call k out) state spare (refused r) (listing_slices state spare out)
  unfolding list_checks lend
  list-closed r e = refuses r (front-refuses (opening s) _ e)

  module _ (d : Device) (passed : (first_refusal (opening s) ≡ none) × (s.device ≡ d)) where
    pub list_length : (length out ≡ listing_length → ⊥) → Ran (list_call k out) state spare (refused bad_length) (listing_slices state spare out)
    unfolding list_checks lend
    list_length f = refuses bad_length (others_decide (opening s) _ passed.0 ∙ refuses_at 0 _ refl tt (wrong_length_lem out listing_length f))

    module _ (fits : length out ≡ listing_length) where
      on_group : first_refusal (list_checks k (with_out out (lend s spare [] []))) ≡ first_refusal (group_checks k s)
      unfolding list_checks lend
      on_group = others_decide (opening s) _ passed.0 ∙ goes_on_lem (bad_length when wrong_length out listing_length) _ (right-length out listing_length fits)

      pub list_range : group_count d ≤ k → Ran (list_call k out) state spare (refused out_of_range) (listing_slices state spare out)
      list_range l = refuses out_of_range (on_group ∙ no_group s k d passed.1 l)

      module _ (inside : k < group_count d) where
        pub list_unsound : sound_group d.N k (group_at s k) ≡ false → Ran (list_call k out) state spare (refused not_sound) (listing_slices state spare out)
        list_unsound f = refuses not_sound (on_group ∙ unsound_group s k d passed.1 inside f)

        pub list_done_lem : sound_group d.N k (group_at s k) ≡ true → (n : ℕ) (out' : List ℕ) → n ≡ record_count (group_at s k) → out' ≡ store out 0 (group_bytes 0 (group_at s k))
            → Ran (list_call k out) state spare (listed n) (listing_slices state spare out')
        unfolding checks_of lent_to lend effect list_done
        list_done_lem f n out' e q = ran-accepted (list_call k out) state spare (listed n) _ (on_group ∙ sound_group_lem s k d passed.1 inside f) (ap listed e) (rw q) (λ _. refl)
