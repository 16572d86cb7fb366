-- A record's eight bytes: four stores one behind the other, and the record read back from them, field by field. Assumes nothing.
use mathlib.Core.Path.{◌≡◌, refl, ap, ◌∙◌}
use mathlib.Core.List.{List, [], ◌∷◌}
use Prim.Native.Nat.{ℕ, ◌+◌, ◌≤◌}
use native.Mathlib.Omega.{arith}
use lib.ListN.{length}
use lib.IntN.{ℤ}
use mir.Syntax.{w32}
use mir.Val.{SFits}
use mir.Facts.{to_z-of_z}
use Rattle.model.specs.Lists.{store}
use Rattle.octets.specs.Little.{le16, le32, signed32, le32s, bits32, bytes2, bytes4}
use Rattle.octets.proofs.Stores.{store_then}
use Rattle.octets.proofs.Same.{Same, same_first, same_inner, stored_at}
use Rattle.octets.proofs.ReadWrite.{byte_same, le16_same, le32s_same, bits32-bound}
use Rattle.record.specs.declared.Record.{Record}
use Rattle.record.specs.Coding.{record_at, eight, InEight}

pub length-eight : (r : Record) → length (eight r) ≡ 8
unfolding eight bytes2 bytes4
length-eight r = refl

-- start, span, word and intercept, each behind the other
module _ (s a b c d : List ℕ) (p : ℕ) (r : Record) (z : ℤ) (same : z ≡ r.intercept) where
  pub four-stored : a ≡ store s p (r.start ∷ []) → b ≡ store a (p + 1) (r.span ∷ []) → c ≡ store b (p + 2) (bytes2 r.word)
      → d ≡ store c (p + 4) (bytes4 (bits32 z)) → d ≡ store s p (eight r)
  unfolding eight bytes2 bytes4
  four-stored ea eb ec ed =
      let two : b ≡ store s p (r.start ∷ r.span ∷ []) = eb ∙ rw ea (store_then s p (r.start ∷ []) (r.span ∷ [])) in
      let four : c ≡ store s p (r.start ∷ r.span ∷ bytes2 r.word) = ec ∙ rw two (store_then s p (r.start ∷ r.span ∷ []) (bytes2 r.word)) in
      ed ∙ rw (four, same) (store_then s p (r.start ∷ r.span ∷ bytes2 r.word) (bytes4 (bits32 r.intercept)))

-- records whose bytes are alike are equal
pub record_same : {s t : List ℕ} {p q : ℕ} → Same 8 s p t q → record_at s p ≡ record_at t q
unfolding record_at
record_same a =
    rw (
      byte_same (same_first 1 (omega arith) a),
      byte_same (same_inner 1 1 (omega arith) a),
      le16_same (same_inner 2 2 (omega arith) a),
      le32s_same (same_inner 4 4 (omega arith) a),
    )

-- what was stored is read back
module _ (r : Record) (fits : InEight r) (signed : SFits w32 r.intercept) where
  word_back : le16 (eight r) 2 ≡ r.word
  unfolding le16 eight bytes2 bytes4
  word_back = omega arith

  bits_back : (v : ℕ) → bits32 r.intercept ≡ v → le32 (eight r) 4 ≡ v
  unfolding le16 le32 eight bytes2 bytes4
  bits_back v e = let b = bits32-bound r.intercept signed in rw e (omega arith)

  intercept-back : le32s (eight r) 4 ≡ r.intercept
  unfolding le32s signed32 bits32
  intercept-back = ap signed32 (bits_back (bits32 r.intercept) refl) ∙ to_z-of_z signed

  eight-back : record_at (eight r) 0 ≡ r
  unfolding record_at eight
  eight-back = rw (word_back, intercept-back)

  pub decode-encode : (s : List ℕ) (p : ℕ) → p + 8 ≤ length s → record_at (store s p (eight r)) p ≡ r
  unfolding eight bytes2 bytes4
  decode-encode s p h = record_same (stored_at s p (eight r) h) ∙ eight-back
