-- Telling why: an entry's bytes are its reason's. Assumes nothing.
use mathlib.Core.Path.{◌≡◌, refl, sym, ap, ◌∙◌}
use mathlib.Core.List.{List, [], ◌∷◌, ◌++◌}
use mathlib.Core.Option.{none, some}
use mathlib.Core.Bool.{true≢false, true, false}
use Prim.Native.Nat.{ℕ, zero, suc, ◌+◌, ◌*◌, ◌-◌, ◌/◌, ◌%◌, ◌≤◌, ◌<◌}
use native.Mathlib.Omega.{arith}
use lib.IntN.{pos}
use lib.ListN.{length, length-append}
use borrow.Author.Tests.{ne_eqb}
use Rattle.model.specs.Lists.{store}
use Rattle.model.specs.Record as model
use Rattle.model.specs.Record.{Kind, single, accurate, approximate, kind, is_approximate, covers, member}
use Rattle.octets.specs.Little.{bits32, bytes2, bytes4}
use Rattle.octets.proofs.Stores.{store_then}
use Rattle.record.specs.declared.Record.{Record}
use Rattle.record.specs.Read.{as_record}
use Rattle.record.specs.Coding.{eight, InEight}
use Rattle.record.proofs.Coding.{length-eight}
use Rattle.calls.specs.Listing.{record_bytes}
use Rattle.calls.specs.Why.{uncovered, not_owned, reason_as, reason_of, says_member, owner_bytes, reason_bytes}
use Rattle.lookup.specs.declared.why.Entry.{Entry}
use Rattle.lookup.specs.WhyEntries.{twelve, start_of, Stands}

pub length-twelve : (e : Entry) → length (twelve e) ≡ 12
unfolding twelve bytes4
length-twelve e = length-append (eight e.held) (bytes4 e.note) ∙ omega (arith, length-eight e.held)

-- a store of the record, and one of the note behind it
pub twelve-stored : (s t u : List ℕ) (p : ℕ) (e : Entry) → t ≡ store s p (eight e.held) → u ≡ store t (p + 8) (bytes4 e.note) → u ≡ store s p (twelve e)
unfolding twelve
twelve-stored s t u p e d f =
    let h : p + 8 ≡ p + length (eight e.held) = omega (arith, length-eight e.held) in
    f ∙ rw (h, d) (store_then s p (eight e.held) (bytes4 e.note))

-- zeros where no record covers the offset
pub tells_zeros : Stands (record { held = record { start = 0; span = 0; word = 0; intercept = pos 0 }; note = 0 }) uncovered
unfolding reason_bytes owner_bytes says_member twelve eight bits32 bytes2 bytes4
tells_zeros = record { bytes = refl; said = refl; fits = (omega arith, omega arith, omega arith) }

-- the entry of a record that covers the offset, by its kind
module _ (r : Record) (fits : InEight r) (o w : ℕ) (L : List ℕ) where
  abbrev whole : model.Record
  whole = as_record r L

  abbrev entry : ℕ → Entry
  entry n = record { held = r; note = n }

  pub tells_member : member whole o ≡ true → Stands (entry 3) (reason_of o (start_of w) whole)
  unfolding reason_of reason_bytes owner_bytes record_bytes says_member twelve eight bytes4
  tells_member e = rw (e, reason_of) (record { bytes = refl; said = refl; fits = fits })

  pub tells_stride : member whole o ≡ false → is_approximate (kind whole) ≡ false → Stands (entry 1) (reason_of o (start_of w) whole)
  unfolding reason_of reason_as is_approximate reason_bytes owner_bytes record_bytes says_member twelve eight bytes4
  tells_stride e a = rw (e, reason_of) (go (kind whole) a)
    where
      go : (q : Kind) → is_approximate q ≡ false → Stands (entry 1) (reason_as q (start_of w) whole)
      go single h = record { bytes = refl; said = refl; fits = fits }
      go (accurate d) h = record { bytes = refl; said = refl; fits = fits }
      go (approximate a) h = absurd (true≢false h)

  pub tells_unowned : member whole o ≡ false → is_approximate (kind whole) ≡ true → w ≡ 0 → Stands (entry 2) (reason_of o (start_of w) whole)
  unfolding reason_of reason_as start_of is_approximate reason_bytes owner_bytes record_bytes says_member twelve eight bytes4
  tells_unowned e a z = rw (e, z, reason_of) (go (kind whole) a)
    where
      go : (q : Kind) → is_approximate q ≡ true → Stands (entry 2) (reason_as q none whole)
      go single h = absurd (true≢false (sym h))
      go (accurate d) h = absurd (true≢false (sym h))
      go (approximate a) h = record { bytes = refl; said = refl; fits = fits }

  -- the note's bytes, where an owner is given
  note_bytes : (n : ℕ) → n < 256 → bytes4 (258 + 65536 * n) ≡ 2 ∷ 1 ∷ n ∷ 0 ∷ []
  unfolding bytes4
  note_bytes n h = go (258 + 65536 * n) refl
    where
      go : (v : ℕ) → v ≡ 258 + 65536 * n → bytes4 v ≡ 2 ∷ 1 ∷ n ∷ 0 ∷ []
      go v e =
          let x : v / 256 ≡ 1 + 256 * n = omega arith in
          let y : v / 256 / 256 ≡ n = omega arith in
          let z : v / 256 / 256 / 256 ≡ 0 = omega arith in
          let a : v % 256 ≡ 2 = omega arith in
          let b : v / 256 % 256 ≡ 1 = omega arith in
          let c : v / 256 / 256 % 256 ≡ n = omega arith in
          let d : v / 256 / 256 / 256 % 256 ≡ 0 = omega arith in
          rw (a, b, c, d) refl

  pub tells_owned : member whole o ≡ false → is_approximate (kind whole) ≡ true → (w ≡ 0 → ⊥) → w ≤ 256 → Stands (entry (258 + 65536 * (w - 1))) (reason_of o (start_of w) whole)
  unfolding reason_of reason_as start_of is_approximate reason_bytes owner_bytes record_bytes says_member twelve eight
  tells_owned e a f l = rw (e, reason_of) (go (kind whole) a w f l)
    where
      there : (n : ℕ) → suc n ≤ 256 → Stands (entry (258 + 65536 * n)) (not_owned whole (some n))
      there n h = record {
        bytes = ap (λ (v : List ℕ). eight r ++ v) (note_bytes n (omega arith));
        said = ne_eqb (258 + 65536 * n) 3 (λ z. omega arith);
        fits = fits;
      }

      go : (q : Kind) → is_approximate q ≡ true → (w : ℕ) → (w ≡ 0 → ⊥) → w ≤ 256 → Stands (entry (258 + 65536 * (w - 1))) (reason_as q (start_of w) whole)
      go single h w f l = absurd (true≢false (sym h))
      go (accurate d) h w f l = absurd (true≢false (sym h))
      go (approximate a) h zero f l = absurd (f refl)
      go (approximate a) h (suc n) f l = let z : suc n - 1 ≡ n = omega arith in rw z (there n l)
