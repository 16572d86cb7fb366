-- An insertion that is asked of bytes, test by test: what makes it ready, and how it ends. Assumes nothing.
use mathlib.Core.Path.{◌≡◌, refl, sym, ap, subst, ◌∙◌}
use mathlib.Core.List.{List}
use mathlib.Core.Bool.{Bool, true, false, not, ◌&&◌}
use Prim.Native.Nat.{ℕ, ◌<◌}
use native.Mathlib.Omega.{arith}
use lib.Dec.{eqb}
use lib.ListN.{length, get_or}
use borrow.Author.Tests.{ltb-true, eqb-true, eq-eqb, ne_eqb}
use Rattle.model.specs.Device.{group_length}
use Rattle.model.specs.Record as model
use Rattle.model.specs.Record.{member}
use Rattle.model.specs.Levels.{record_count, insert}
use Rattle.model.specs.Sound.{sound_record, sound_group}
use Rattle.model.proofs.Bools.{and_l, and_r}
use Rattle.model.proofs.SoundGroup.{insert-sound}
use Rattle.record.specs.declared.Record.{Record}
use Rattle.record.specs.Read.{as_record}
use Rattle.record.specs.Coding.{record_at}
use Rattle.group.specs.Reading.{read_group, encodes}
use Rattle.group.specs.Held.{Held}
use Rattle.group.proofs.Holding.{sound-held}
use Rattle.group.proofs.Members.{every_of}
use Rattle.group.proofs.Soundness.{sound-encodes}
use Rattle.insertion.specs.Ready.{Masks, Ready}
use Rattle.probe.specs.Groups.{outside, bit, is_sound, record_by, masks, fitting, has_room, insertable, Inserts}
use Rattle.probe.proofs.Conditions.{size, sound}

-- a mask's byte by the bit that it is
bit_masked : (t : Bool) → not (eqb (bit t) 0) ≡ t
unfolding bit
bit_masked true = ap not (ne_eqb 1 0 (λ z. absurd (omega arith)))
bit_masked false = ap not (eq-eqb 0 0 refl)

module _ (b e m : List ℕ) where
  -- Whether a record can be inserted, a law for each way to answer.
  pub no_room : has_room b ≡ false → false ≡ insertable b e m
  unfolding insertable
  no_room q = rw q

  module _ (room : has_room b ≡ true) where
    pub not_eight : (length e ≡ 8 → ⊥) → false ≡ insertable b e m
    unfolding insertable
    not_eight f = rw (room, ne_eqb (length e) 8 f)

    module _ (eight : length e ≡ 8) where
      pub no_mask : (length m ≡ 256 → ⊥) → false ≡ insertable b e m
      unfolding insertable
      no_mask f = rw (room, eq-eqb (length e) 8 eight, ne_eqb (length m) 256 f)

      pub by_fitting : length m ≡ 256 → (r : Record) (t : Bool) → r ≡ record_at e 0 → t ≡ fitting m r → t ≡ insertable b e m
      unfolding insertable
      by_fitting long r t is q = rw (room, eq-eqb (length e) 8 eight, eq-eqb (length m) 256 long) (q ∙ ap (fitting m) is)

  -- One that can't leaves the bytes as they are.
  pub not_inserted : insertable b e m ≡ false → Inserts (insertable b e m) b e m b outside
  unfolding Inserts
  not_inserted q = rw q (refl, refl)

  -- One that can is inserted.
  module _ (may : insertable b e m ≡ true) where
    abbrev R : model.Record
    R = record_by m (record_at e 0)

    lengths : (has_room b && eqb (length e) 8 && eqb (length m) 256) ≡ true
    unfolding insertable
    lengths = and_l (has_room b && eqb (length e) 8 && eqb (length m) 256) _ may

    fits : fitting m (record_at e 0) ≡ true
    unfolding insertable
    fits = and_r (has_room b && eqb (length e) 8 && eqb (length m) 256) _ may

    room : has_room b ≡ true
    room = and_l (has_room b) _ (and_l (has_room b && eqb (length e) 8) _ lengths)

    pub has-eight : length e ≡ 8
    has-eight = eqb-true _ _ (and_r (has_room b) _ (and_l (has_room b && eqb (length e) 8) _ lengths))

    pub has-size : length b ≡ group_length
    unfolding has_room
    has-size = size b (and_l (is_sound b) _ room)

    is_sound_lem : sound_group 256 0 (read_group b) ≡ true
    unfolding has_room
    is_sound_lem = sound b (and_l (is_sound b) _ room)

    few : record_count (read_group b) < 512
    unfolding has_room
    few = ltb-true _ _ (and_r (is_sound b) _ room)

    fits_record : sound_record 256 0 R ≡ true
    unfolding fitting
    fits_record = and_l (sound_record 256 0 R) _ fits

    has-members : Masks m R
    unfolding fitting masks
    has-members o h =
        let a = every_of (masks m (record_at e 0)) 256 0 (and_r (sound_record 256 0 R) _ fits) o (omega arith) (omega arith) in
        let q : get_or m o 0 ≡ bit (member R o) = eqb-true _ _ a in
        ap (λ (n : ℕ). not (eqb n 0)) q ∙ bit_masked (member R o)

    whole : Ready b m (record_at e 0)
    whole = record {
      N = 256;
      number = 0;
      group = read_group b;
      owned = R.owned;
      size = has-size;
      long = eqb-true _ _ (and_r (has_room b && eqb (length e) 8) _ lengths);
      held = sound-held 256 0 b is_sound_lem;
      sound = is_sound_lem;
      few = few;
      fits = fits_record;
      members = has-members;
    }

    -- r is the record in the eight bytes
    module _ (r : Record) (is : r ≡ record_at e 0) where
      pub ready : Ready b m r
      ready = subst (λ (x : Record). Ready b m x) (sym is) whole

      -- b' is what its insertion leaves
      module _ (b' : List ℕ) (f : (q : Ready b m r) → Held b' (insert (as_record r q.owned) q.group) × (read_group b' ≡ insert (as_record r q.owned) (read_group b))) where
        read : read_group b' ≡ insert R (read_group b)
        unfolding whole
        read = (subst (λ (x : Record). (q : Ready b m x) → Held b' (insert (as_record x q.owned) q.group) × (read_group b' ≡ insert (as_record x q.owned) (read_group b))) is f whole).1

        pub still_encodes : encodes b' ≡ true
        still_encodes = sound-encodes 256 0 b' (ap (sound_group 256 0) read ∙ insert-sound 256 0 R (read_group b) is_sound_lem fits_record few)

        pub inserted : (n : ℕ) → n ≡ record_count (read_group b') → Inserts (insertable b e m) b e m b' n
        unfolding Inserts
        inserted n q = rw may (read, q ∙ ap record_count read)
