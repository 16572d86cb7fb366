-- A record of the group with the offsets that it owns: none unless it is approximate; an approximate one's members are the offsets
-- whose owner it is, which lie in its range where it is sound. Assumes nothing.
use mathlib.Core.Path.{◌≡◌, sym, ◌∙◌, ap}
use mathlib.Core.List.{[]}
use mathlib.Core.Bool.{true, false}
use Prim.Native.Nat.{ℕ, suc, ◌<◌}
use lib.Dec.{eqb}
use borrow.Author.Tests.{eq-eqb}
use Rattle.model.specs.Lists.{elem}
use Rattle.model.specs.Record.{kind_of, is_approximate, member}
use Rattle.model.specs.Sound.{sound_record}
use Rattle.model.proofs.Order.{sound-within}
use Rattle.model.proofs.SoundRecord.{owned-member}
use Rattle.record.specs.declared.Record.{Record}
use Rattle.record.specs.Read.{as_record}
use Rattle.group.specs.declared.Slot.{Slot}
use Rattle.group.proofs.Ends.{owned_by_lem}
use Rattle.group.proofs.Shapes.{owned-approx, owned_other}
use Rattle.slots.specs.View.{OwnsInRange}
use Rattle.slots.specs.Owners.{owning}

-- some slot of the record
abbrev in_slot : Record → Slot
in_slot r = record { level = 0; held = r }

module _ (w : ℕ → ℕ) (r : Record) where
  -- it owns nothing
  pub owning_none : is_approximate (kind_of r.word) ≡ false → owning w r ≡ as_record r []
  owning_none exact = ap (as_record r) (owned_other w (in_slot r) exact)

  pub exact-sound : is_approximate (kind_of r.word) ≡ false → sound_record 256 0 (owning w r) ≡ true → (is_approximate (kind_of r.word) ≡ false) × (sound_record 256 0 (as_record r []) ≡ true)
  exact-sound exact sound = (exact, rw (owning_none exact) at sound)

  -- an approximate record's members are the offsets whose owner names it, which lie in its range
  module _ (slope : is_approximate (kind_of r.word) ≡ true) (o : ℕ) (h : o < 256) where
    pub owned-names : eqb (w o) (suc r.start) ≡ member (owning w r) o
    owned-names = sym (owned_by_lem w r.start o h) ∙ sym (ap (elem o) (owned-approx w (in_slot r) slope)) ∙ sym (owned-member (owning w r) o slope)

  pub owned_in_range : sound_record 256 0 (owning w r) ≡ true → OwnsInRange w r
  owned_in_range sound slope o h e = sound-within 256 0 (owning w r) sound o (sym (owned-names slope o h) ∙ eq-eqb _ _ e)
