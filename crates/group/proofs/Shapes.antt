-- A slot's record is sound exactly where its four numbers are and, if it is approximate, it owns its ends: kind by kind. Assumes nothing.
use mathlib.Core.Path.{◌≡◌, refl, sym, ap, ◌∙◌}
use mathlib.Core.List.{[]}
use mathlib.Core.Bool.{true≢false, Bool, true, false, ◌&&◌}
use Prim.Native.Nat.{ℕ, suc, ◌+◌, ◌*◌, ◌≤◌, ◌<◌}
use native.Mathlib.Omega.{arith}
use lib.Dec.{leb, ltb}
use borrow.Author.Tests.{leb-true, ltb-true, le-leb, lt-ltb, eqb-true}
use Rattle.model.specs.Lists.{elem}
use Rattle.model.specs.Record as model
use Rattle.model.specs.Record.{Kind, single, accurate, approximate, kind_of, is_approximate}
use Rattle.model.specs.Sound.{is_empty, owns_its_ends, sound_as, sound_record}
use Rattle.model.proofs.Bools.{and_l, and_r, and_i, iff_bool}
use Rattle.model.proofs.Lists.{no_elem}
use Rattle.record.specs.declared.Record.{Record}
use Rattle.record.specs.Read.{as_record}
use Rattle.record.proofs.Words.{kind-zero}
use Rattle.group.specs.declared.Slot.{Slot}
use Rattle.group.specs.Reading.{owned_by, owned_as, record_of}
use Rattle.group.specs.Checking.{approx, end_of, offsets_in, shaped_as, shaped}
use Rattle.group.proofs.Ends.{Ends, owned_only, owned_in, owns_of, of_owns}

-- the shape bounds the end
pub shaped-below : (m : ℕ) (r : Record) → shaped m r ≡ true → end_of r < m
unfolding shaped
shaped-below m r h = ltb-true _ _ (and_l (ltb (end_of r) m) _ h)

-- and a single's span
pub shaped-span : (m : ℕ) (r : Record) → shaped m r ≡ true → r.word ≡ 0 → r.span ≡ 0
unfolding shaped shaped_as
shaped-span m r h e =
    eqb-true _ _ (ap (λ (k : Kind). shaped_as k r.span) (sym (kind-zero r.word e)) ∙ and_r (ltb (end_of r) m) _ h)

-- a group has at most 256 offsets
pub offsets_most : (N k : ℕ) → offsets_in N k ≤ 256
unfolding offsets_in
offsets_most N k = omega arith

-- a last offset is a byte of a page among N exactly where it is below the number of the group's offsets
within : (N k e : ℕ) → (leb e 255 && ltb (256 * k + e) N) ≡ ltb e (offsets_in N k)
unfolding offsets_in
within N k e =
    iff_bool _ _ (λ h. lt-ltb e (offsets_in N k) (omega (arith, leb-true e 255 (and_l (leb e 255) _ h), ltb-true (256 * k + e) N (and_r (leb e 255) _ h))))
    (λ h. let q : e < offsets_in N k = ltb-true _ _ h in and_i _ _ (le-leb e 255 (omega arith)) (lt-ltb (256 * k + e) N (omega arith)))

-- what an approximate record owns, and any other
module _ (w : ℕ → ℕ) (s : Slot) where
  pub owned-approx : approx s.held ≡ true → (record_of w s).owned ≡ owned_by w s.held.start
  unfolding owned_as is_approximate
  owned-approx h = go (kind_of s.held.word) h
    where
      go : (k : Kind) → is_approximate k ≡ true → owned_as k w s.held.start ≡ owned_by w s.held.start
      go single e = absurd (true≢false (sym e))
      go (accurate d) e = absurd (true≢false (sym e))
      go (approximate a) e = refl

  pub owned_other : approx s.held ≡ false → (record_of w s).owned ≡ []
  unfolding owned_as is_approximate
  owned_other h = go (kind_of s.held.word) h
    where
      go : (k : Kind) → is_approximate k ≡ false → owned_as k w s.held.start ≡ []
      go single e = refl
      go (accurate d) e = refl
      go (approximate a) e = absurd (true≢false e)

  -- a record is sound by its four numbers, and by its ends if it is approximate
  ends : Kind → model.Record → Bool
  ends single r = true
  ends (accurate d) r = true
  ends (approximate a) r = owns_its_ends r r.owned

  sound-split : (N k : ℕ) → sound_record N k (record_of w s) ≡ (shaped (offsets_in N k) s.held && ends (kind_of s.held.word) (record_of w s))
  unfolding sound_record sound_as shaped shaped_as ends owned_as is_empty
  sound-split N k = ap (λ (t : Bool). t && sound_as (kind_of s.held.word) (record_of w s)) (within N k (end_of s.held))
      ∙ ap (λ (t : Bool). ltb (end_of s.held) (offsets_in N k) && t) (go (kind_of s.held.word))
      ∙ assoc (ltb (end_of s.held) (offsets_in N k)) (shaped_as (kind_of s.held.word) s.held.span) (ends (kind_of s.held.word) (record_of w s))
    where
      assoc : (a b c : Bool) → (a && (b && c)) ≡ ((a && b) && c)
      assoc true b c = refl
      assoc false b c = refl

      go : (q : Kind) → sound_as q (as_record s.held (owned_as q w s.held.start)) ≡ (shaped_as q s.held.span && ends q (as_record s.held (owned_as q w s.held.start)))
      go single = refl
      go (accurate d) = refl
      go (approximate a) = refl

  pub sound-shaped : (N k : ℕ) → sound_record N k (record_of w s) ≡ true → shaped (offsets_in N k) s.held ≡ true
  sound-shaped N k h = and_l (shaped (offsets_in N k) s.held) _ (sym (sound-split N k) ∙ h)

  pub sound-ends : (N k : ℕ) → sound_record N k (record_of w s) ≡ true → approx s.held ≡ true → Ends w s.held.start (end_of s.held)
  unfolding is_approximate ends
  sound-ends N k h a = of_owns w (record_of w s) (go (kind_of s.held.word) (record_of w s) a (and_r (shaped (offsets_in N k) s.held) _ (sym (sound-split N k) ∙ h)) (owned-approx a))
    where
      go : (q : Kind) (r : model.Record) → is_approximate q ≡ true → ends q r ≡ true → r.owned ≡ owned_by w s.held.start → owns_its_ends r (owned_by w s.held.start) ≡ true
      go single r a e o = absurd (true≢false (sym a))
      go (accurate d) r a e o = absurd (true≢false (sym a))
      go (approximate c) r a e o = ap (owns_its_ends r) (sym o) ∙ e

  pub sound_of : (N k : ℕ) → shaped (offsets_in N k) s.held ≡ true → (approx s.held ≡ true → Ends w s.held.start (end_of s.held)) → sound_record N k (record_of w s) ≡ true
  unfolding is_approximate ends
  sound_of N k h f =
      sound-split N k
      ∙ and_i _ _ h (go (kind_of s.held.word) (record_of w s) (λ a. ap (owns_its_ends (record_of w s)) (owned-approx a) ∙ owns_of w (record_of w s) (omega (arith, shaped-below (offsets_in N k) s.held h, offsets_most N k)) (f a)))
    where
      go : (q : Kind) (r : model.Record) → (is_approximate q ≡ true → owns_its_ends r r.owned ≡ true) → ends q r ≡ true
      go single r g = refl
      go (accurate d) r g = refl
      go (approximate c) r g = g refl

  -- an offset that the slot's record owns
  pub owned_if : (o : ℕ) → elem o (record_of w s).owned ≡ true → (approx s.held ≡ true) × (w o ≡ suc s.held.start)
  owned_if o h = go (approx s.held) refl
    where
      go : (t : Bool) → approx s.held ≡ t → (approx s.held ≡ true) × (w o ≡ suc s.held.start)
      go true e = (e, (owned_only w s.held.start o (rw (owned-approx e) at h)).0)
      go false e = no_elem o (rw (owned_other e) at h)

  pub if_owned : (o : ℕ) → o < 256 → approx s.held ≡ true → w o ≡ suc s.held.start → elem o (record_of w s).owned ≡ true
  if_owned o l a e = rw (owned-approx a) (owned_in w s.held.start o l e)
