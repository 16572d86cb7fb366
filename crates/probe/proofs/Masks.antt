-- Whether a record and its mask fit: the tests of each offset and of the ends decide it. Assumes nothing.
use mathlib.Core.Path.{◌≡◌, refl, sym, ap, ◌∙◌}
use mathlib.Core.List.{List}
use mathlib.Core.Bool.{true≢false, Bool, true, false, not, ◌&&◌}
use Prim.Native.Nat.{ℕ, zero, suc, ◌+◌, ◌≤◌, ◌<◌}
use native.Mathlib.Omega.{arith}
use lib.Dec.{leb, eqb}
use lib.ListN.{get_or}
use borrow.Author.Tests.{eqb-true, eq-eqb, ne_eqb, le-leb, leb-true}
use Rattle.model.specs.Lists.{elem}
use Rattle.model.specs.Record.{covers, member}
use Rattle.model.specs.Sound.{sound_record}
use Rattle.model.proofs.Bools.{and_l, and_r, and_i, iff_bool, is_false}
use Rattle.model.proofs.Order.{sound-within}
use Rattle.model.proofs.SoundRecord.{owned-member}
use Rattle.record.specs.declared.Record.{Record}
use Rattle.record.specs.Scan.{masked, on_stride}
use Rattle.record.proofs.Strides.{stride_on}
use Rattle.group.specs.declared.Slot.{Slot}
use Rattle.group.specs.Reading.{every_from}
use Rattle.group.specs.Checking.{approx, end_of, offsets_in, shaped}
use Rattle.group.proofs.Members.{every_of, of_every}
use Rattle.group.proofs.Ends.{Ends, owned_by_lem}
use Rattle.group.proofs.Shapes.{owned-approx, sound-shaped, sound-ends, sound_of}
use Rattle.probe.specs.Groups.{bit, owner_if, owners_by, record_by, masks, fitting, tested_as, tested, masked_in, Expected, ends_masked}

-- the record owns, by the owners of the mask, what the mask has
owner-masked : (t : Bool) (start : ℕ) → eqb (owner_if t start) (suc start) ≡ t
unfolding owner_if
owner-masked true start = eq-eqb (suc start) (suc start) refl
owner-masked false start = ne_eqb 0 (suc start) (λ e. absurd (omega arith))

-- two tests that agree on all offsets
pub every-alike : (t u : ℕ → Bool) → ((o : ℕ) → o < 256 → t o ≡ u o) → every_from t 256 0 ≡ every_from u 256 0
every-alike t u same =
    iff_bool _ _ (λ h. of_every u 256 0 (λ o a b. sym (same o b) ∙ every_of t 256 0 h o a b)) (λ h. of_every t 256 0 (λ o a b. same o b ∙ every_of u 256 0 h o a b))

module _ (m : List ℕ) (r : Record) where
  -- the slot of the record alone
  abbrev alone : Slot
  alone = record { level = 0; held = r }

  -- A mask that is compared with the one expected, offset by offset: it is tested as the record says.
  compared : (n : ℕ) (x is_member isCovered : Bool) → x ≡ (isCovered && is_member) → (n ≡ 0 → is_member ≡ true → isCovered ≡ true) → eqb n (bit x) ≡ tested_as n is_member isCovered
  unfolding tested_as bit
  compared n x a c e within = ap (λ (t : Bool). eqb n (bit t)) e ∙ go n a c within
    where
      go : (n : ℕ) (a c : Bool) → (n ≡ 0 → a ≡ true → c ≡ true) → eqb n (bit (c && a)) ≡ tested_as n a c
      go zero true true f = ne_eqb 0 1 (λ z. omega arith)
      go zero true false f = absurd (true≢false (sym (f refl refl)))
      go zero false true f = eq-eqb 0 0 refl
      go zero false false f = eq-eqb 0 0 refl
      go (suc zero) true true f = eq-eqb 1 1 refl
      go (suc zero) false true f = ne_eqb 1 0 (λ z. omega arith)
      go (suc zero) a false f = ne_eqb 1 0 (λ z. omega arith)
      go (suc (suc n)) true true f = ne_eqb (suc (suc n)) 1 (λ z. omega arith)
      go (suc (suc n)) false true f = ne_eqb (suc (suc n)) 0 (λ z. omega arith)
      go (suc (suc n)) a false f = ne_eqb (suc (suc n)) 0 (λ z. omega arith)

  module _ (l : List ℕ) where
    -- of an approximate record, whose members the mask has
    pub owned-tested : approx r ≡ true → Expected (masked_in m r.start (end_of r)) l → (o : ℕ) → o < 256 → eqb (get_or m o 0) (get_or l o 0) ≡ tested m r o
    unfolding covers
    owned-tested a expected o h =
        ap (eqb (get_or m o 0)) (expected.1 o h)
        ∙ compared (get_or m o 0) _ _ _ (ap (λ (t : Bool). covers (record_by m r) o && t) (sym own)) (λ z t. absurd (true≢false (sym t ∙ own ∙ ap not (eq-eqb (get_or m o 0) 0 z))))
      where
        own : member (record_by m r) o ≡ masked m o
        own = owned-member (record_by m r) o a ∙ ap (elem o) (owned-approx (owners_by m r) alone a) ∙ owned_by_lem (owners_by m r) r.start o h ∙ owner-masked (masked m o) r.start

    -- of any other, whose members are those of a stride
    pub strided-tested : (d e : ℕ) → e ≤ end_of r → ((o : ℕ) → o < 256 → on_stride r.start d e o ≡ member (record_by m r) o) → Expected (on_stride r.start d e) l
        → (o : ℕ) → o < 256 → eqb (get_or m o 0) (get_or l o 0) ≡ tested m r o
    unfolding covers
    strided-tested d e low same expected o h =
        ap (eqb (get_or m o 0)) (expected.1 o h)
        ∙ compared (get_or m o 0) _ _ _ (same o h ∙ both (member (record_by m r) o) inside) (λ z. inside)
      where
        inside : member (record_by m r) o ≡ true → covers (record_by m r) o ≡ true
        inside t =
            let q = stride_on r.start d e o (same o h ∙ t) in
            and_i _ _ (le-leb r.start o q.low) (le-leb o (end_of r) (omega (arith, q.high)))

        both : (a : Bool) → (a ≡ true → covers (record_by m r) o ≡ true) → a ≡ (covers (record_by m r) o && a)
        both true f = rw (f refl)
        both false f = none (covers (record_by m r) o)
          where
            none : (c : Bool) → false ≡ (c && false)
            none true = refl
            none false = refl

  -- The test of the ends, a law for each way to answer.
  pub ends_other : approx r ≡ false → true ≡ ends_masked (approx r) m r
  unfolding ends_masked
  ends_other e = rw e

  pub ends_first : approx r ≡ true → get_or m r.start 0 ≡ 0 → false ≡ ends_masked (approx r) m r
  unfolding ends_masked
  ends_first e z = rw (e, eq-eqb (get_or m r.start 0) 0 z)

  pub ends_last : approx r ≡ true → (get_or m r.start 0 ≡ 0 → ⊥) → masked m (r.start + r.span) ≡ ends_masked (approx r) m r
  unfolding ends_masked
  ends_last e z = rw (e, ne_eqb (get_or m r.start 0) 0 z)

  -- by one offset's test, and by the mask there
  tested-masks : (o : ℕ) → tested m r o ≡ true → masks m r o ≡ true
  unfolding tested_as masks bit
  tested-masks o = go (get_or m o 0) (member (record_by m r) o) (covers (record_by m r) o)
    where
      go : (n : ℕ) (a c : Bool) → tested_as n a c ≡ true → eqb n (bit a) ≡ true
      go zero true c e = absurd (true≢false (sym e))
      go zero false c e = eq-eqb 0 0 refl
      go (suc zero) true c e = eq-eqb 1 1 refl
      go (suc zero) false true e = absurd (true≢false (sym e))
      go (suc zero) false false e = absurd (true≢false (sym e))
      go (suc (suc n)) a c e = absurd (true≢false (sym e))

  tested-covers : (o : ℕ) → tested m r o ≡ true → masked m o ≡ true → covers (record_by m r) o ≡ true
  unfolding tested_as
  tested-covers o = go (get_or m o 0) (member (record_by m r) o) (covers (record_by m r) o)
    where
      go : (n : ℕ) (a c : Bool) → tested_as n a c ≡ true → not (eqb n 0) ≡ true → c ≡ true
      go zero a c e k = absurd (true≢false (sym (ap not (sym (eq-eqb 0 0 refl)) ∙ k)))
      go (suc zero) a true e k = refl
      go (suc zero) a false e k = absurd (true≢false (sym e))
      go (suc (suc n)) a c e k = absurd (true≢false (sym e))

  masks-tested : (o : ℕ) → masks m r o ≡ true → (member (record_by m r) o ≡ true → covers (record_by m r) o ≡ true) → tested m r o ≡ true
  unfolding tested_as masks bit
  masks-tested o h f = go (get_or m o 0) (member (record_by m r) o) (eqb-true _ _ h) f
    where
      go : (n : ℕ) (a : Bool) → n ≡ bit a → (a ≡ true → covers (record_by m r) o ≡ true) → tested_as n a (covers (record_by m r) o) ≡ true
      go n true e g = rw (e, g refl)
      go n false e g = rw e

  owned-masked : (t : Bool) → owner_if t r.start ≡ suc r.start → t ≡ true
  unfolding owner_if
  owned-masked true e = refl
  owned-masked false e = absurd (omega arith)

  -- what a fit record and mask pass
  module _ (h : fitting m r ≡ true) where
    sound_by : sound_record 256 0 (record_by m r) ≡ true
    unfolding fitting
    sound_by = and_l (sound_record 256 0 (record_by m r)) _ h

    fits-shaped : shaped 256 r ≡ true
    unfolding offsets_in
    fits-shaped = sound-shaped (owners_by m r) alone 256 0 sound_by

    fits-ends : ends_masked (approx r) m r ≡ true
    unfolding ends_masked
    fits-ends = go (approx r) refl
      where
        go : (t : Bool) → approx r ≡ t → ends_masked t m r ≡ true
        go true e =
            let ends = sound-ends (owners_by m r) alone 256 0 sound_by e in
            and_i _ _ (owned-masked (masked m r.start) ends.first_own) (owned-masked (masked m (end_of r)) ends.last_own)
        go false e = refl

    fits-tested : every_from (tested m r) 256 0 ≡ true
    unfolding fitting covers
    fits-tested =
        of_every (tested m r) 256 0
        (λ o a b.
        masks-tested o (every_of (masks m r) 256 0 (and_r (sound_record 256 0 (record_by m r)) _ h) o a b)
        (λ q. let w = sound-within 256 0 (record_by m r) sound_by o q in and_i _ _ (le-leb _ _ w.0) (le-leb _ _ w.1)))

  -- A record and a mask that pass the tests fit.
  module _ (shape : shaped 256 r ≡ true) (ends : ends_masked (approx r) m r ≡ true) where
    tests_fit : every_from (tested m r) 256 0 ≡ true → fitting m r ≡ true
    unfolding fitting ends_masked covers owner_if offsets_in
    tests_fit h = and_i _ _ (sound_of (owners_by m r) alone 256 0 shape owns) (of_every (masks m r) 256 0 (λ o a b. tested-masks o (every_of (tested m r) 256 0 h o a b)))
      where
        both : approx r ≡ true → (masked m r.start && masked m (end_of r)) ≡ true
        both e = rw e at ends

        owns : approx r ≡ true → Ends (owners_by m r) r.start (end_of r)
        owns e = record {
          first_own = ap (λ (t : Bool). owner_if t r.start) (and_l (masked m r.start) _ (both e));
          last_own = ap (λ (t : Bool). owner_if t r.start) (and_r (masked m r.start) _ (both e));
          within = λ o b q.
              let c = tested-covers o (every_of (tested m r) 256 0 h o (omega arith) (omega arith)) (owned-masked (masked m o) q) in
              (leb-true _ _ (and_l (leb r.start o) _ c), leb-true _ _ (and_r (leb r.start o) _ c));
        }

    pub all_tests : (t : Bool) → t ≡ every_from (tested m r) 256 0 → t ≡ fitting m r
    all_tests t e = e ∙ iff_bool _ _ tests_fit fits-tested

  -- One that fails a test doesn't.
  pub not_shaped : shaped 256 r ≡ false → false ≡ fitting m r
  not_shaped e = sym (is_false _ (λ h. true≢false (sym (fits-shaped h) ∙ e)))

  pub not_ends : ends_masked (approx r) m r ≡ false → false ≡ fitting m r
  not_ends e = sym (is_false _ (λ h. true≢false (sym (fits-ends h) ∙ e)))
