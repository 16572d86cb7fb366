-- The device numbers in the state's first bytes. Assumes nothing.
use mathlib.Core.Path.{◌≡◌, refl, ap, ◌∙◌}
use mathlib.Core.List.{List, ◌++◌}
use mathlib.Core.Bool.{true}
use Prim.Native.Nat.{ℕ, ◌+◌, ◌≤◌, ◌<◌}
use native.Mathlib.Omega.{arith}
use lib.ListN.{length}
use Rattle.model.specs.Lists.{store}
use Rattle.model.specs.Device.{Device, within_limits}
use Rattle.model.proofs.Limits.{limits}
use Rattle.octets.specs.Little.{le16, le32, bytes4}
use Rattle.octets.proofs.Stores.{store_then}
use Rattle.octets.proofs.Same.{Same, same_first, same_inner, stored_at}
use Rattle.octets.proofs.ReadWrite.{le32_same}
use Rattle.front.specs.Reading.{numbers_at}
use Rattle.front.specs.Formatting.{head_of}
use Rattle.front.proofs.Within.{room_small}

-- read one by one
pub numbers-read : (s : List ℕ) (m b n g : ℕ) → m ≡ le32 s 0 → b ≡ le32 s 4 → n ≡ le32 s 8 → g ≡ le32 s 12 → ◌≡◌ {A = Device} (record { M = m; B = b; N = n; g = g }) (numbers_at s)
unfolding numbers_at
numbers-read s m b n g em eb en eg = rw (em, eb, en, eg)

-- written one behind the other
pub head_stores : (s t u v w : List ℕ) (d : Device) → t ≡ store s 0 (bytes4 d.M) → u ≡ store t 4 (bytes4 d.B) → v ≡ store u 8 (bytes4 d.N) → w ≡ store v 12 (bytes4 d.g)
    → w ≡ store s 0 (head_of d)
unfolding head_of bytes4
head_stores s t u v w d et eu ev ew =
    ew
    ∙ ap (λ (l : List ℕ). store l 12 (bytes4 d.g)) (ev
    ∙ ap (λ (l : List ℕ). store l 8 (bytes4 d.N)) (eu
    ∙ ap (λ (l : List ℕ). store l 4 (bytes4 d.B)) et
    ∙ store_then s 0 (bytes4 d.M) (bytes4 d.B))
    ∙ store_then s 0 (bytes4 d.M ++ bytes4 d.B) (bytes4 d.N))
    ∙ store_then s 0 (bytes4 d.M ++ bytes4 d.B ++ bytes4 d.N) (bytes4 d.g)

-- and read back, where each fits its 4 bytes
pub length_head : (d : Device) → length (head_of d) ≡ 16
unfolding head_of bytes4
length_head d = refl

head_read : (d : Device) → d.M < 4294967296 → d.B < 4294967296 → d.N < 4294967296 → d.g < 4294967296 → numbers_at (head_of d) ≡ d
unfolding numbers_at head_of bytes4 le32 le16
head_read d m b n g =
    let em : le32 (head_of d) 0 ≡ d.M = omega arith in
    let eb : le32 (head_of d) 4 ≡ d.B = omega arith in
    let en : le32 (head_of d) 8 ≡ d.N = omega arith in
    let eg : le32 (head_of d) 12 ≡ d.g = omega arith in
    rw (em, eb, en, eg)

-- the numbers, read from the same bytes
pub numbers_same : {s t : List ℕ} → Same 16 t 0 s 0 → numbers_at t ≡ numbers_at s
unfolding numbers_at
numbers_same {s = s} {t = t} a =
    let m : le32 t 0 ≡ le32 s 0 = le32_same (same_first 4 (omega arith) a) in
    let b : le32 t 4 ≡ le32 s 4 = le32_same (same_inner 4 4 (omega arith) a) in
    let n : le32 t 8 ≡ le32 s 8 = le32_same (same_inner 8 4 (omega arith) a) in
    let g : le32 t 12 ≡ le32 s 12 = le32_same (same_inner 12 4 (omega arith) a) in
    rw (m, b, n, g)

pub head_stored : (d : Device) (s : List ℕ) → within_limits d ≡ true → 16 ≤ length s → numbers_at (store s 0 (head_of d)) ≡ d
head_stored d s h l =
    let i = limits d h in
    let room : 0 + length (head_of d) ≤ length s = omega (arith, length_head d) in
    numbers_same (same_first 16 (omega (arith, length_head d)) (stored_at s 0 (head_of d) room))
    ∙ head_read d (omega (arith, i.most_M)) (omega (arith, i.most_B)) (omega (arith, i.most_N, room_small d.M d.B i.most_M i.most_B)) (omega (arith, i.most_g))
