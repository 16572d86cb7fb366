-- Bytes that hold a sound group are read as that group, and bytes that are read as a sound group hold it: the slots are
-- the group written out, the owners its records' owned offsets. Assumes nothing.
use mathlib.Core.Path.{◌≡◌, refl, sym, ap, ◌∙◌}
use mathlib.Core.List.{List, [], ◌∷◌, ◌++◌, map, flatten}
use mathlib.Core.Bool.{true}
use Prim.Native.Nat.{ℕ, zero, suc, ◌<◌}
use native.Mathlib.Omega.{arith}
use lib.ListN.{length, length-map}
use Rattle.model.specs.Lists.{elem}
use Rattle.model.specs.Record.{Record, kind, is_approximate}
use Rattle.model.specs.Levels.{Level, Group, listing, record_count}
use Rattle.model.specs.Sound.{sound_record, sound_group}
use Rattle.model.proofs.SoundRecord.{sound-owner}
use Rattle.model.proofs.SoundGroups.{empty-sound}
use Rattle.model.proofs.SoundGroup.{SoundGroup, group-parts}
use Rattle.record.specs.Read.{as_record, bare}
use Rattle.group.specs.declared.Slot.{Slot}
use Rattle.group.specs.Layout.{used_of, flag_of, slots_from, slots_of, owner_of}
use Rattle.group.specs.Cutting.{Placed, in_level, flat_from, flat, cut}
use Rattle.group.specs.Reading.{record_of, placed_of, named, known, coherent, encodes, read_group}
use Rattle.group.specs.Held.{slot_for, slots_for, owner_among, Held}
use Rattle.group.proofs.Cases.{owner_none}
use Rattle.group.proofs.Cutting.{cut-flat, climbs-flat}
use Rattle.group.proofs.Slots.{parts-coherent, listing-read, slots_read, encoded, read_is}
use Rattle.group.proofs.Members.{In, here, there, in_map, map-map, map_same, all_in, Named, named_of_lem, named_here, named_there, every_of, of_every}
use Rattle.group.proofs.Shapes.{owned_if, if_owned}
use Rattle.group.proofs.Soundness.{sound-encodes}
use Rattle.group.proofs.Owned.{Among, nobody, owner, among, owned-back}

-- the records of the group written out
items_level : (n : ℕ) (l : Level) (k : List Placed) → map (λ p. p.item) (map (in_level n) l ++ k) ≡ l ++ map (λ p. p.item) k
items_level n [] k = refl
items_level n (r ∷ l) k = ap (λ (m : List Record). r ∷ m) (items_level n l k)

items_from : (n : ℕ) (g : Group) → map (λ p. p.item) (flat_from n g) ≡ listing g
unfolding flat_from flatten
items_from n [] = refl
items_from n (l ∷ g) = items_level n l (flat_from (suc n) g) ∙ ap (λ (m : List Record). l ++ m) (items_from (suc n) g)

-- its slots, as many as its records
pub length-slots_for : (g : Group) → length (slots_for g) ≡ record_count g
unfolding record_count
length-slots_for g = length-map (flat g) slot_for ∙ sym (length-map (flat g) (λ p. p.item)) ∙ ap length (items_from 0 g)

-- an approximate record of the list has a slot that names its start
named_record : (r : Record) (l : List Placed) → In r (map (λ p. p.item) l) → is_approximate (kind r) ≡ true → named r.start (map slot_for l) ≡ true
named_record r [] i a = elim i [ ]
named_record r (p ∷ l) here a = named_here (slot_for p) (map slot_for l) a
named_record r (p ∷ l) (there i) a = named_there r.start (slot_for p) (map slot_for l) (named_record r l i a)

-- the owner that a coherent table of owners has for an offset is the one among the records
in_owner : (w : ℕ → ℕ) (o : ℕ) (l : List Slot) (r : Record) → In r (map (record_of w) l) → elem o r.owned ≡ true → w o ≡ suc r.start
in_owner w o [] r i e = elim i [ ]
in_owner w o (s ∷ l) r here e = (owned_if w s o e).1
in_owner w o (s ∷ l) r (there i) e = in_owner w o l r i e

owner-read : (w : ℕ → ℕ) (o : ℕ) (l : List Slot) → o < 256 → known l (w o) ≡ true → (n : ℕ) → Among o (map (record_of w) l) n → w o ≡ n
unfolding known
owner-read w o l lt h n (nobody f) = go (w o) refl h
  where
    go : (x : ℕ) → w o ≡ x → known l x ≡ true → x ≡ 0
    go zero e q = refl
    go (suc x) e q =
        let s : Named x l = named_of_lem x l q in
        let u : w o ≡ suc s.slot.held.start = rw s.starts e in
        absurd (f (record_of w s.slot) (in_map (record_of w) s.among) (if_owned w s.slot o lt s.kind u))
owner-read w o l lt h n (owner r i e) = in_owner w o l r i e

-- Bytes that encode a group hold it.
pub encodes-held : (b : List ℕ) → encodes b ≡ true → Held b (read_group b)
encodes-held b h = record { slots = sym (slots_read b h); owners = owners }
  where
    owners : (o : ℕ) → o < 256 → owner_of b o ≡ owner_among o (listing (read_group b))
    owners o lt =
        rw (listing-read b h)
        (owner-read (owner_of b) o (slots_of b) lt (every_of _ 256 0 (encoded b h).owners o (omega arith) (omega arith)) (owner_among o (map (record_of (owner_of b)) (slots_of b))) (among o (map (record_of (owner_of b)) (slots_of b))))

-- Bytes that are read as a sound group hold it.
pub sound-held : (N k : ℕ) (b : List ℕ) → sound_group N k (read_group b) ≡ true → Held b (read_group b)
sound-held N k b h = encodes-held b (sound-encodes N k b h)

-- Bytes that hold a sound group encode it, and are read as it.
module _ (N k : ℕ) (b : List ℕ) (g : Group) (h : Held b g) (s : sound_group N k g ≡ true) where
  parts : SoundGroup N k g
  parts = group-parts N k g s

  in_items : (p : Placed) → In p (flat g) → In p.item (listing g)
  in_items p i = rw (items_from 0 g) at (in_map (λ p. p.item) i)

  placed_back : map (placed_of (owner_of b)) (slots_for g) ≡ flat g
  placed_back =
      map-map slot_for (placed_of (owner_of b)) (flat g)
      ∙ map_same (λ p. placed_of (owner_of b) (slot_for p)) (flat g)
      (λ p i. ap (λ (x : List ℕ). in_level p.level (as_record (bare p.item) x)) (owned-back N k (listing g) parts.records parts.owners (owner_of b) h.owners p.item (in_items p i)))

  known_at : (o n : ℕ) → Among o (listing g) n → known (slots_for g) n ≡ true
  unfolding known
  known_at o n (nobody f) = refl
  known_at o n (owner r i e) =
      named_record r (flat g) (rw (← items_from 0 g) at i) (sound-owner N k r o (all_in (sound_record N k) parts.records i) e)

  is_coherent : coherent (slots_for g) (owner_of b) ≡ true
  is_coherent =
      parts-coherent (slots_for g) (owner_of b)
      (record {
        few = omega (arith, length-slots_for g, parts.limit);
        climbing = rw placed_back (climbs-flat g parts.filled);
        owners = of_every _ 256 0 (λ o a lt. ap (known (slots_for g)) (h.owners o (omega arith)) ∙ known_at o (owner_among o (listing g)) (among o (listing g)));
      })

  pub held-encodes : encodes b ≡ true
  unfolding encodes
  held-encodes = ap (λ (l : List Slot). coherent l (owner_of b)) h.slots ∙ is_coherent

  pub held-read : read_group b ≡ g
  held-read =
      read_is b held-encodes
      ∙ ap (λ (l : List Slot). cut (map (placed_of (owner_of b)) l)) h.slots
      ∙ ap cut placed_back
      ∙ cut-flat g parts.filled

-- Bytes whose slots are unused and whose flag is 0 are read as the group without records.
pub none_held : (b : List ℕ) → used_of b ≡ 0 → flag_of b ≡ 0 → Held b []
unfolding slots_of slots_from flat_from flatten owner_among
none_held b u f = record { slots = rw u; owners = λ o h. owner_none b o f }

pub none_read : (b : List ℕ) → used_of b ≡ 0 → flag_of b ≡ 0 → read_group b ≡ []
none_read b u f = held-read 0 0 b [] (none_held b u f) (empty-sound 0 0)
