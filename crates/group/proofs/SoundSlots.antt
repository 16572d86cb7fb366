-- The slots of a sound group one by one: each record is sound, so its range is the group's, a single has one offset, and an
-- approximate record owns offset o exactly where the owner of o names its start, in its range. Assumes nothing.
use mathlib.Core.Path.{◌≡◌, sym, ap, ◌∙◌}
use mathlib.Core.List.{List}
use mathlib.Core.Bool.{Bool, true}
use Prim.Native.Nat.{ℕ, zero, suc, ◌+◌, ◌≤◌, ◌<◌}
use native.Mathlib.Omega.{arith}
use native.Mathlib.Numerals.{add-one}
use lib.Dec.{eqb}
use borrow.Author.Tests.{eqb-true, le-leb}
use Rattle.model.specs.Lists.{elem}
use Rattle.model.specs.Record.{covers}
use Rattle.model.specs.Sound.{sound_record}
use Rattle.model.proofs.Bools.{and_i}
use Rattle.model.proofs.SoundGroup.{group-parts}
use Rattle.record.specs.Read.{OwnedAs}
use Rattle.group.specs.declared.Slot.{Slot}
use Rattle.group.specs.Layout.{used_of, slot_of, slots_from, slots_of, owner_of}
use Rattle.group.specs.Reading.{record_of, SoundBytes}
use Rattle.group.specs.Checking.{end_of, offsets_in}
use Rattle.group.proofs.Slots.{listing-read}
use Rattle.group.proofs.Members.{In, here, there, in_map, all_in}
use Rattle.group.proofs.Ends.{owned_by_lem}
use Rattle.group.proofs.Shapes.{owned-approx, sound-shaped, sound-ends, shaped-below, shaped-span, offsets_most}
use Rattle.group.proofs.Soundness.{sound-encodes}

in_from : (b : List ℕ) (i n k : ℕ) → k < n → In (slot_of b (i + k)) (slots_from b i n)
unfolding slots_from
in_from b i zero k h = absurd (omega arith)
in_from b i (suc n) zero h = let e : i + 0 ≡ i = omega arith in rw e here
in_from b i (suc n) (suc k) h = let e : i + suc k ≡ suc i + k = omega arith in rw e (there (in_from b (suc i) n k (omega arith)))

in_slots : (b : List ℕ) (i : ℕ) → i < used_of b → In (slot_of b i) (slots_of b)
unfolding slots_of
in_slots b i h = let e : 0 + i ≡ i = omega arith in rw e at (in_from b 0 (used_of b) i h)

module _ (b : List ℕ) (g : SoundBytes b) (n i : ℕ) (all : n ≡ used_of b) (h : i < n) (s : Slot) (is : s ≡ slot_of b i) where
  pub slot-sound : sound_record g.pages g.number (record_of (owner_of b) s) ≡ true
  slot-sound =
      let e = listing-read b (sound-encodes g.pages g.number b g.sound) in
      rw is (all_in (sound_record g.pages g.number) (rw e at (group-parts g.pages g.number _ g.sound).records) (in_map (record_of (owner_of b)) (in_slots b i (omega arith))))

  pub slot-inside : end_of s.held ≤ 255
  slot-inside =
      omega (arith, shaped-below (offsets_in g.pages g.number) s.held (sound-shaped (owner_of b) s g.pages g.number slot-sound), offsets_most g.pages g.number)

  pub slot-single : s.held.word ≡ 0 → s.held.span ≡ 0
  slot-single = shaped-span (offsets_in g.pages g.number) s.held (sound-shaped (owner_of b) s g.pages g.number slot-sound)

  pub slot_owns : (o : ℕ) → o < 256 → (x : Bool) → x ≡ eqb (owner_of b o) (s.held.start + 1) → OwnedAs s.held o x (record_of (owner_of b) s).owned
  unfolding covers
  slot_owns o lt x q a = (
    ap (elem o) (owned-approx (owner_of b) s a) ∙ owned_by_lem (owner_of b) s.held.start o lt ∙ ap (eqb (owner_of b o)) (sym (add-one s.held.start)) ∙ sym q,
    λ t. let w = (sound-ends (owner_of b) s g.pages g.number slot-sound a).within o lt (eqb-true _ _ (sym q ∙ t) ∙ add-one s.held.start) in and_i _ _ (le-leb _ _ w.0) (le-leb _ _ w.1),
  )
