-- The reasons of a sound group's levels: each holds, it says member exactly where the level has the offset, and they stop there. Assumes
-- nothing.
use mathlib.Core.Path.{◌≡◌, refl, sym, ◌∙◌, ap}
use mathlib.Core.List.{List, [], ◌∷◌, ◌++◌, flatten}
use mathlib.Core.Option.{Option, none, some}
use mathlib.Core.Logic.{inl, inr}
use mathlib.Core.Bool.{true≢false, Bool, true, false, not, ◌||◌, or-false}
use Prim.Native.Nat.{ℕ, suc, ◌≤◌, ◌<◌}
use native.Mathlib.Omega.{arith}
use lib.Dec.{leb, eqb}
use lib.ListN.{length}
use borrow.Author.Tests.{leb-true, le-leb, eq-eqb, eqb-true}
use Rattle.model.specs.Lists.{all, elem, distinct, or_else}
use Rattle.model.specs.Record.{Record, Kind, single, accurate, approximate, kind, is_approximate, end, covers, member_as, member}
use Rattle.model.specs.Levels.{Level, Group, listing, member_of_any, holder, levels_to}
use Rattle.model.specs.Sound.{sound_as, sound_record, owned_offsets}
use Rattle.model.proofs.Bools.{and_l, and_r, and_i, neither, is_false, all_head, all_tail, all_cons, all_left, all_right}
use Rattle.model.proofs.Counting.{elem-left, elem-right, distinct-right, distinct_apart}
use Rattle.model.proofs.Shrink.{of_on, member_as_lem, Within}
use Rattle.model.proofs.SoundRecord.{record_parts, sound-owner}
use Rattle.model.proofs.Order.{Chain, Chains}
use Rattle.calls.specs.Why.{Reason, uncovered, off_stride, not_owned, is_member, covering_in, owner_start, reason_as, reason_of, reason_by, reason_in, says_member, up_to, reasons_from}
use Rattle.calls.specs.Explanation.{OneOf, Owner, nobody, owner, Holds, none_covers, strides_over, does_not_own, has_it, EachHolds, member_in, last_member}

-- a record has no member outside its range
outside : (o : ℕ) (r : Record) → Within r → covers r o ≡ false → member r o ≡ false
unfolding covers
outside o r w h = is_false (member r o) (λ m. true≢false (sym (and_i _ _ (le-leb _ _ (w o m).0) (le-leb _ _ (w o m).1)) ∙ h))

-- a level from b on has no member below b
none_below : (b o : ℕ) (l : Level) → o < b → Chain b l → member_of_any l o ≡ false
unfolding member_of_any
none_below b o [] h c = refl
none_below b o (r ∷ l) h c =
    neither (member r o) _ (is_false (member r o) (λ m. omega (arith, (c.1 o m).0, c.0))) (none_below (suc (end r)) o l (omega (arith, c.0)) c.2)

-- records that don't have the offset are passed over
holder-behind : (o : ℕ) (a b : List Record) → member_of_any a o ≡ false → holder o (a ++ b) ≡ holder o b
unfolding holder member_of_any or_else
holder-behind o [] b h = refl
holder-behind o (r ∷ a) b h = go (member r o) h (holder-behind o a b)
  where
    go : (t : Bool) → (t || member_of_any a o) ≡ false → (member_of_any a o ≡ false → holder o (a ++ b) ≡ holder o b) → or_else t r (holder o (a ++ b)) ≡ holder o b
    go true h ih = absurd (true≢false h)
    go false h ih = ih h

-- What covers the offset in a level: nobody, and the level doesn't have it; or one record, and the level has it where that record does, which
-- is then the one that is met, whatever lies below.
pub data Covering (o : ℕ) (l : Level) : Option Record → Type 0 where
  nothing : all (λ r. not (covers r o)) l ≡ true → member_of_any l o ≡ false → Covering o l none
  one : (r : Record) → OneOf r l → covers r o ≡ true → member_of_any l o ≡ member r o
      → ((below : List Record) → holder o (l ++ below) ≡ or_else (member r o) r (holder o below)) → Covering o l (some r)

covering_behind : (o : ℕ) (r : Record) (l : Level) → Within r → covers r o ≡ false → (x : Option Record) → Covering o l x → Covering o (r ∷ l) x
unfolding member_of_any holder or_else
covering_behind o r l w e _ (nothing a m) = nothing (all_cons (λ r. not (covers r o)) r l (ap not e) a) (neither (member r o) _ (outside o r w e) m)
covering_behind o r l w e _ (one q i k m h) =
    one q (inr i) k (ap (λ (t : Bool). t || member_of_any l o) (outside o r w e) ∙ m)
    (λ below. ap (λ (t : Bool). or_else t r (holder o (l ++ below))) (outside o r w e) ∙ h below)

pub covering : (b o : ℕ) (l : Level) → Chain b l → Covering o l (covering_in o l)
unfolding covering_in covers member_of_any holder or_else all
covering b o [] c = nothing refl refl
covering b o (r ∷ l) c = go (covers r o) refl (covering (suc (end r)) o l c.2)
  where
    go : (t : Bool) → covers r o ≡ t → Covering o l (covering_in o l) → Covering o (r ∷ l) (or_else t r (covering_in o l))
    go true e ih =
        let high : o ≤ end r = leb-true _ _ (and_r (leb r.start o) _ e) in
        let later : member_of_any l o ≡ false = none_below (suc (end r)) o l (omega arith) c.2 in
        one r (inl refl) e (ap (λ (t : Bool). member r o || t) later ∙ or-false (member r o))
        (λ below. ap (or_else (member r o) r) (holder-behind o l below later))
    go false e ih = covering_behind o r l c.1 e _ ih

-- one of several records that pass a test passes it
pub one_passes : (t : Record → Bool) (r : Record) (l : List Record) → OneOf r l → all t l ≡ true → t r ≡ true
one_passes t r [] i h = elim i [ ]
one_passes t r (s ∷ l) (inl e) h = ap t e ∙ all_head t s l h
one_passes t r (s ∷ l) (inr i) h = one_passes t r l i (all_tail t s l h)

-- none of the records owns the offset that none of their offsets is
disowned : (o : ℕ) (q : Record) (l : List Record) → OneOf q l → elem o q.owned ≡ true → elem o (owned_offsets l) ≡ true
unfolding owned_offsets
disowned o q [] i h = elim i [ ]
disowned o q (s ∷ l) (inl e) h = elem-left o s.owned (owned_offsets l) (sym (ap (λ (r : Record). elem o r.owned) e) ∙ h)
disowned o q (s ∷ l) (inr i) h = elem-right o s.owned (owned_offsets l) (disowned o q l i h)

-- a sound record that owns an offset is approximate, of some slope
slope : (N k o : ℕ) (r : Record) → sound_record N k r ≡ true → elem o r.owned ≡ true → (a : ℕ) × (kind r ≡ approximate a)
unfolding is_approximate
slope N k o r s h = go (kind r) refl (sound-owner N k r o s h)
  where
    go : (q : Kind) → kind r ≡ q → is_approximate q ≡ true → (a : ℕ) × (kind r ≡ approximate a)
    go single e t = absurd (true≢false (sym t))
    go (accurate d) e t = absurd (true≢false (sym t))
    go (approximate a) e t = (a, e)

-- The owner that is told is the owner.
pub owner-told : (N k o : ℕ) (l : List Record) → all (sound_record N k) l ≡ true → distinct (owned_offsets l) ≡ true → Owner o l (owner_start o l)
unfolding owner_start or_else all owned_offsets
owner-told N k o [] s d = nobody refl
owner-told N k o (r ∷ l) s d =
    go (elem o r.owned) refl (owner_start o l) (owner-told N k o l (all_tail (sound_record N k) r l s) (distinct-right r.owned (owned_offsets l) d))
  where
    go : (t : Bool) → elem o r.owned ≡ t → (w : Option ℕ) → Owner o l w → Owner o (r ∷ l) (or_else t r.start w)
    go true e w ih =
        let a = slope N k o r (all_head (sound_record N k) r l s) e in
        owner r (inl refl) a.0 a.1 e only
      where
        only : (q : Record) → OneOf q (r ∷ l) → elem o q.owned ≡ true → q ≡ r
        only q (inl z) h = z
        only q (inr i) h = absurd (distinct_apart r.owned (owned_offsets l) d o e (disowned o q l i h))
    go false e _ (nobody n) = nobody (all_cons (λ r. not (elem o r.owned)) r l (ap not e) n)
    go false e _ (owner p i a c h u) = owner p (inr i) a c h only
      where
        only : (q : Record) → OneOf q (r ∷ l) → elem o q.owned ≡ true → q ≡ p
        only q (inl z) h = absurd (true≢false (sym h ∙ ap (λ (r : Record). elem o r.owned) z ∙ e))
        only q (inr j) h = u q j h

-- a reason that isn't a member's doesn't say member
not_said : (q : Kind) (w : Option ℕ) (r : Record) → says_member (reason_as q w r) ≡ false
unfolding reason_as says_member
not_said single w r = refl
not_said (accurate d) w r = refl
not_said (approximate a) w r = refl

-- how many there are with one more level's
up_to-length : (x : Reason) (later : List Reason) → length (up_to x later) ≡ elim (says_member x) [ true ↦ 1 | false ↦ suc (length later) ]
unfolding up_to
up_to-length x later = go (says_member x)
  where
    go : (t : Bool) → length (x ∷ elim t [ true ↦ [] | false ↦ later ]) ≡ elim t [ true ↦ 1 | false ↦ suc (length later) ]
    go true = refl
    go false = refl

-- the member of a level's reason, or else the one below
abbrev or_below : Reason → Option Record → Option Record
or_below uncovered m = m
or_below (off_stride r) m = m
or_below (not_owned r v) m = m
or_below (is_member r) m = some r

below-misses : (q : Kind) (w : Option ℕ) (r : Record) (m : Option Record) → or_below (reason_as q w r) m ≡ m
unfolding reason_as
below-misses single w r m = refl
below-misses (accurate d) w r m = refl
below-misses (approximate a) w r m = refl

-- the member that the entries end with, with one more level's
last_up_to : (x : Reason) (later : List Reason) → last_member (up_to x later) ≡ or_below x (last_member later)
unfolding last_member member_in up_to says_member
last_up_to uncovered [] = refl
last_up_to uncovered (y ∷ later) = refl
last_up_to (off_stride r) [] = refl
last_up_to (off_stride r) (y ∷ later) = refl
last_up_to (not_owned r v) [] = refl
last_up_to (not_owned r v) (y ∷ later) = refl
last_up_to (is_member r) later = refl

module _ (N k o : ℕ) (l : List Record) (w : Option ℕ) (told : Owner o l w) where
  -- A record that covers the offset and hasn't it is off the stride or not the owner.
  misses : (r : Record) (level : Level) → OneOf r level → covers r o ≡ true → sound_record N k r ≡ true → member r o ≡ false → Holds o l level (reason_as (kind r) w r)
  unfolding covers reason_as sound_as member_as
  misses r level i c s m = go (kind r) refl (record_parts N k r s).shape
    where
      low : r.start ≤ o
      low = leb-true _ _ (and_l (leb r.start o) _ c)

      high : o ≤ end r
      high = leb-true _ _ (and_r (leb r.start o) _ c)

      go : (q : Kind) → kind r ≡ q → sound_as q r ≡ true → Holds o l level (reason_as q w r)
      go single e h =
          let z : r.span ≡ 0 = eqb-true _ _ (and_l (eqb r.span 0) _ h) in
          absurd (true≢false (sym (eq-eqb o r.start (omega (arith, low, high, z))) ∙ sym (member_as_lem r single o e) ∙ m))
      go (accurate d) e h = strides_over r i c d e (λ z. true≢false (sym (of_on d r o (record { low = low; high = high; step = z })) ∙ sym (member_as_lem r (accurate d) o e) ∙ m))
      go (approximate a) e h = does_not_own r i c a e (sym (member_as_lem r (approximate a) o e) ∙ m) w told

  -- A level's reason holds, says member exactly where the level has the offset, and of the record that is met there.
  pub level_holds : (level : Level) → Chain 0 level → all (sound_record N k) level ≡ true
      → Holds o l level (reason_in o w level) × (says_member (reason_in o w level) ≡ member_of_any level o)
      × ((below : List Record) → holder o (level ++ below) ≡ or_below (reason_in o w level) (holder o below))
  unfolding reason_of reason_by says_member or_else
  level_holds level c s = by (covering_in o level) (covering 0 o level c)
    where
      Told : Reason → Type 0
      Told x = Holds o l level x × (says_member x ≡ member_of_any level o) × ((below : List Record) → holder o (level ++ below) ≡ or_below x (holder o below))

      go : (r : Record) (t : Bool) → member r o ≡ t → OneOf r level → covers r o ≡ true → member_of_any level o ≡ member r o
          → ((below : List Record) → holder o (level ++ below) ≡ or_else (member r o) r (holder o below)) → Told (reason_of o w r)
      go r true e i h m d = rw (e, reason_of) (has_it r i h e, sym (m ∙ e), λ below. d below ∙ ap (λ (t : Bool). or_else t r (holder o below)) e)
      go r false e i h m d =
          rw (e, reason_of) (
            misses r level i h (one_passes (sound_record N k) r level i s) e,
            not_said (kind r) w r ∙ sym (m ∙ e),
            λ below. d below ∙ ap (λ (t : Bool). or_else t r (holder o below)) e ∙ sym (below-misses (kind r) w r (holder o below)),
          )

      by : (x : Option Record) → Covering o level x → Told (reason_by o w x)
      by _ (nothing a m) = (none_covers a, sym m, λ below. holder-behind o level below m)
      by _ (one r i h m d) = go r (member r o) refl i h m d

  -- Entry after entry.
  pub each_holds : (g : Group) → Chains g → all (sound_record N k) (listing g) ≡ true → EachHolds o l g (reasons_from o w g)
  unfolding reasons_from up_to says_member flatten
  each_holds [] c s = tt
  each_holds (level ∷ g) c s =
      go (reason_in o w level) (level_holds level c.0 (all_left (sound_record N k) level (flatten g) s)).0 (each_holds g c.1 (all_right (sound_record N k) level (flatten g) s))
    where
      go : (x : Reason) → Holds o l level x → EachHolds o l g (reasons_from o w g) → EachHolds o l (level ∷ g) (up_to x (reasons_from o w g))
      go uncovered h later = (h, later)
      go (off_stride r) h later = (h, later)
      go (not_owned r v) h later = (h, later)
      go (is_member r) h later = (h, tt)

  -- There are as many as levels down to the one that has the offset, or all.
  pub reasons-length : (g : Group) → Chains g → all (sound_record N k) (listing g) ≡ true → length (reasons_from o w g) ≡ levels_to o g
  unfolding reasons_from levels_to flatten
  reasons-length [] c s = refl
  reasons-length (level ∷ g) c s =
      let later : List Reason = reasons_from o w g in
      up_to-length (reason_in o w level) later
      ∙ ap (λ (t : Bool). elim t [ true ↦ 1 | false ↦ suc (length later) ]) (level_holds level c.0 (all_left (sound_record N k) level (flatten g) s)).1
      ∙ ap (λ (n : ℕ). elim (member_of_any level o) [ true ↦ 1 | false ↦ suc n ]) (reasons-length g c.1 (all_right (sound_record N k) level (flatten g) s))

  -- The last says member exactly where some record has the offset, of the record that is met first.
  pub last_met : (g : Group) → Chains g → all (sound_record N k) (listing g) ≡ true → last_member (reasons_from o w g) ≡ holder o (listing g)
  unfolding reasons_from holder flatten last_member
  last_met [] c s = refl
  last_met (level ∷ g) c s =
      last_up_to (reason_in o w level) (reasons_from o w g)
      ∙ ap (or_below (reason_in o w level)) (last_met g c.1 (all_right (sound_record N k) level (flatten g) s))
      ∙ sym ((level_holds level c.0 (all_left (sound_record N k) level (flatten g) s)).2 (listing g))
