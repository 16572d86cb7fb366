-- Numbers read from bytes that are alike, read back after a write, and bounded: digit by digit. Assumes nothing.
use mathlib.Core.Path.{◌≡◌, refl, ap, ◌∙◌}
use mathlib.Core.List.{List}
use Prim.Native.Nat.{ℕ, ◌+◌, ◌≤◌, ◌<◌}
use native.Mathlib.Omega.{arith}
use lib.ListN.{length, get_or}
use lib.IntN.{ℤ}
use mir.Syntax.{w32}
use mir.Val.{SFits}
use mir.Facts.{Fits-of_z, Fits-lt-pow}
use Rattle.model.specs.Lists.{store}
use Rattle.octets.specs.Little.{le16, le32, signed32, le32s, bits32, bytes2}
use Rattle.octets.proofs.Same.{Same, same_first, same_inner, stored_at}

-- numbers whose bytes are alike are equal
pub byte_same : {s t : List ℕ} {p q : ℕ} → Same 1 s p t q → get_or s p 0 ≡ get_or t q 0
byte_same {s = s} {t = t} {p = p} {q = q} a =
    let e : p ≡ p + 0 = omega arith in
    let f : q ≡ q + 0 = omega arith in
    rw (e, f) (a.each 0 (omega arith))

pub le16_same : {s t : List ℕ} {p q : ℕ} → Same 2 s p t q → le16 s p ≡ le16 t q
unfolding le16
le16_same {s = s} {t = t} {p = p} {q = q} a =
    let e : get_or s p 0 ≡ get_or t q 0 = byte_same (same_first 1 (omega arith) a) in
    let f : get_or s (p + 1) 0 ≡ get_or t (q + 1) 0 = a.each 1 (omega arith) in
    rw (e, f)

pub le32_same : {s t : List ℕ} {p q : ℕ} → Same 4 s p t q → le32 s p ≡ le32 t q
unfolding le32
le32_same {s = s} {t = t} {p = p} {q = q} a =
    let e : le16 s p ≡ le16 t q = le16_same (same_first 2 (omega arith) a) in
    let f : le16 s (p + 2) ≡ le16 t (q + 2) = le16_same (same_inner 2 2 (omega arith) a) in
    rw (e, f)

pub le32s_same : {s t : List ℕ} {p q : ℕ} → Same 4 s p t q → le32s s p ≡ le32s t q
unfolding le32s
le32s_same a = ap signed32 (le32_same a)

pub length-bytes2 : (v : ℕ) → length (bytes2 v) ≡ 2
unfolding bytes2
length-bytes2 v = refl

pub le16-stored : (s : List ℕ) (p v : ℕ) → p + 2 ≤ length s → v < 65536 → le16 (store s p (bytes2 v)) p ≡ v
unfolding le16 bytes2
le16-stored s p v h k =
    let d : le16 (bytes2 v) 0 ≡ v = omega arith in
    le16_same (stored_at s p (bytes2 v) h) ∙ d

pub bits32-bound : (z : ℤ) → SFits w32 z → bits32 z < 4294967296
unfolding bits32
bits32-bound z f = Fits-lt-pow (Fits-of_z f)
