-- What is left of a record by the owners of its offsets, and the owners that they get: an approximate record's members are
-- the offsets of its range whose owner names it. Assumes nothing.
use Rattle.std.specs.Prelude as code
use mathlib.Core.Path.{◌≡◌, refl, sym, ap, ◌∙◌}
use mathlib.Core.List.{List, []}
use mathlib.Core.Option.{none, some, map}
use mathlib.Core.Bool.{Bool, true, false, not, ◌&&◌}
use Prim.Native.Nat.{ℕ, suc, ◌+◌, ◌-◌, ◌≤◌, ◌<◌}
use native.Mathlib.Omega.{arith}
use native.Mathlib.Nat.{mod-one}
use lib.IntN.{ℤ}
use borrow.Author.Tests.{eqb-true}
use Rattle.model.specs.Lists.{elem}
use Rattle.model.specs.Options.{as_option}
use Rattle.model.specs.Record.{kind_of, is_approximate, member}
use Rattle.model.specs.Levels.{shrink}
use Rattle.record.specs.declared.Record.{Record}
use Rattle.record.specs.Read.{as_record, bare}
use Rattle.record.specs.Scan.{masked, on_stride, First, Last}
use Rattle.record.proofs.Words.{odd_of}
use Rattle.record.proofs.Members.{member-owned}
use Rattle.record.proofs.Strides.{on_stride_lem}
use Rattle.record.proofs.Ends.{none_left, some_left}
use Rattle.group.specs.declared.Slot.{Slot}
use Rattle.group.specs.Layout.{flag_of, owner_of}
use Rattle.group.proofs.Cases.{owner_none}
use Rattle.group.proofs.Ends.{owned_by_lem}
use Rattle.group.proofs.Shapes.{owned-approx, owned_other}
use Rattle.slots.specs.Owners.{owner_is, left_to, handed_on, start_left, owning}
use Rattle.slots.specs.View.{Room, OwnersPut, OwnsInRange, LeftOf}
use Rattle.slots.proofs.Owning.{left_other, on_other, owner_sloped, owner-exact, owner_other}
use Rattle.slots.proofs.OwnerPasses.{all_put}

-- some slot of the record
abbrev in_slot : Record → Slot
in_slot r = record { level = 0; held = r }

-- a record that isn't approximate owns nothing, and no owner changes
pub exact-left : (s taken : List ℕ) (r : Record) (x : code.Option Record) → Room s → is_approximate (kind_of r.word) ≡ false
    → as_option x ≡ map bare (shrink (masked taken) (as_record r [])) → LeftOf s s taken r x
exact-left s taken r x room exact e =
    let none_owned : owning (owner_of s) r ≡ as_record r [] = ap (as_record r) (owned_other (owner_of s) (in_slot r) exact) in
    record { left = rw none_owned e; room = room; slots = refl; flag = refl; owners = λ o h. sym (owner-exact r x (masked taken o) (owner_of s o) exact) }

module _ (r : Record) (slope : is_approximate (kind_of r.word) ≡ true) where
  module _ (w : ℕ → ℕ) (taken : List ℕ) (short : r.start + r.span ≤ 255) (inside : OwnsInRange w r) where
    -- offset o stays with the record
    abbrev stay : ℕ → Bool
    stay o = left_to r.start (masked taken o) (w o)

    picks : (o : ℕ) → o < 256 → (member (owning w r) o && not (masked taken o)) ≡ (on_stride r.start 1 (r.start + r.span) o && stay o)
    unfolding left_to
    picks o h = rw is (go (owner_is (w o) r.start) refl)
      where
        is : member (owning w r) o ≡ owner_is (w o) r.start
        is = sym (member-owned (owning w r) o (odd_of _ slope)) ∙ ap (elem o) (owned-approx w (in_slot r) slope) ∙ owned_by_lem w r.start o h

        and-false : (t : Bool) → false ≡ (t && false)
        and-false true = refl
        and-false false = refl

        go : (t : Bool) → owner_is (w o) r.start ≡ t → (t && not (masked taken o)) ≡ (on_stride r.start 1 (r.start + r.span) o && (t && not (masked taken o)))
        go true e =
            let range = inside slope o h (eqb-true _ _ e) in
            let on : on_stride r.start 1 (r.start + r.span) o ≡ true = on_stride_lem (record { low = range.0; high = range.1; step = mod-one (o - r.start) }) in
            rw on
        go false e = and-false (on_stride r.start 1 (r.start + r.span) o)

    pub nothing_left : (f : ℕ) → First stay r.start 1 (r.start + r.span) f → r.start + r.span < f → none ≡ map bare (shrink (masked taken) (owning w r))
    unfolding shrink
    nothing_left f first h = none_left (λ o. member (owning w r) o && not (masked taken o)) stay r.start 1 (r.start + r.span) short picks (owning w r) f first h

    pub something_left : (f g : ℕ) (z : ℤ) → First stay r.start 1 (r.start + r.span) f → f ≤ r.start + r.span → Last stay f 1 (r.start + r.span) g
        → z ≡ r.intercept → some (record { start = f; span = g - f; word = r.word; intercept = z }) ≡ map bare (shrink (masked taken) (owning w r))
    unfolding shrink
    something_left f g z first h last e = some_left (λ o. member (owning w r) o && not (masked taken o)) stay r.start 1 (r.start + r.span) short picks (owning w r) f first g h last z e

  -- the pass over the record's range leaves the owners of all others, as none names the record
  module _ (s t taken : List ℕ) (x : code.Option Record) (inside : OwnsInRange (owner_of s) r) where
    pub owners-left : OwnersPut (λ o w. handed_on r.start (masked taken o) (start_left x) w) s t r.start (r.start + r.span + 1)
        → as_option x ≡ map bare (shrink (masked taken) (owning (owner_of s) r)) → LeftOf s t taken r x
    owners-left put e = record {
      left = e;
      room = put.room;
      slots = put.slots;
      flag = put.flag;
      owners = λ o h. all_put _ s t put (λ k i n. on_other _ _ _ _ (λ e. n (inside slope k i e).0 (omega (arith, (inside slope k i e).1)))) o h ∙ sym (owner_sloped r x (masked taken o) (owner_of s o) slope);
    }

  -- while no offset has an owner, nothing is left of it
  pub unowned-left : (s taken : List ℕ) → Room s → r.start + r.span ≤ 255 → OwnsInRange (owner_of s) r → flag_of s ≡ 0 → LeftOf s s taken r code.None
  unfolding as_option
  unowned-left s taken room short inside off = record {
    left = nothing_left (owner_of s) taken short inside (r.start + r.span + 1) failed (omega arith);
    room = room;
    slots = refl;
    flag = refl;
    owners = λ o h. sym (owner_other r code.None (masked taken o) (owner_of s o) (λ a. unnamed o));
  }
    where
      unnamed : (o : ℕ) → owner_of s o ≡ suc r.start → ⊥
      unnamed o e = omega (arith, owner_none s o off)

      failed : First (λ o. left_to r.start (masked taken o) (owner_of s o)) r.start 1 (r.start + r.span) (r.start + r.span + 1)
      failed = (
        record { low = omega arith; step = mod-one (r.start + r.span + 1 - r.start); before = λ o h l e. left_other r.start (masked taken o) (owner_of s o) (unnamed o) },
        λ h. absurd (let z : ⊥ = omega arith in z),
      )
