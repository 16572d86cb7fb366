-- A page's block without a division: multiplied by the reciprocal of the number of a block's pages and shifted. Assumes nothing.
use mathlib.Core.Path.{◌≡◌, ap}
use Prim.Native.Nat.{ℕ, ◌+◌, ◌*◌, ◌/◌, ◌%◌, ◌≤◌, ◌<◌}
use native.Mathlib.Omega.{arith}
use native.Mathlib.Nat.{mul-le-mul_left, mul-le-mul_right, mod-lt, div-add-mod', le-div_iff_mul-le, div-lt_iff_lt-mul}
use Rattle.plaincalls.specs.Passes.{reciprocal}

-- k blocks of b pages and s more, multiplied by c + 1, where c is how often b goes into 2 ^ 32 and t is what is left of that: k is
-- counted 2 ^ 32 times, and what is more is less than that.
at_least : (b c t k s : ℕ) → c * b + t ≡ 4294967296 → t < b → k * 4294967296 ≤ (k * b + s) * (c + 1)
at_least b c t k s e h =
    let whole : k * (c * b + t) ≡ k * 4294967296 = ap (λ (x : ℕ). k * x) e in
    let left : k * t ≤ k * b = mul-le-mul_left k (omega arith) in
    omega (arith, whole, left)

below : (b c t k s : ℕ) → c * b + t ≡ 4294967296 → s < b → k * b + b ≤ c → (k * b + s) * (c + 1) < k * 4294967296 + 4294967296
below b c t k s e h l =
    let whole : k * (c * b + t) ≡ k * 4294967296 = ap (λ (x : ℕ). k * x) e in
    let most : (s + 1) * (c + 1) ≤ b * (c + 1) = mul-le-mul_right (c + 1) (omega arith) in
    omega (arith, whole, most, e, l)

between : (p k : ℕ) → k * 4294967296 ≤ p → p < k * 4294967296 + 4294967296 → p / 4294967296 ≡ k
between p k h l = omega arith

-- The reciprocal's bounds.
least : (b : ℕ) → 4 ≤ b → b ≤ 256 → 16777216 ≤ 4294967296 / b
least b h l =
    let some : 0 < b = omega arith in
    let room : 16777216 * b ≤ 4294967296 = omega arith in
    (le-div_iff_mul-le some).1 room

pub reciprocal-small : (b : ℕ) → 4 ≤ b → reciprocal b ≤ 1073741825
reciprocal-small b h =
    let some : 0 < b = omega arith in
    let room : 4294967296 < 1073741825 * b = omega arith in
    let most : 4294967296 / b < 1073741825 = (div-lt_iff_lt-mul some).1 room in
    omega arith

-- So the product, shifted, is the block.
pub reciprocal_divides : (b q : ℕ) → 4 ≤ b → b ≤ 256 → q ≤ 1048576 → q * reciprocal b / 4294967296 ≡ q / b
reciprocal_divides b q h l m =
    let c : ℕ = 4294967296 / b in
    let k : ℕ = q / b in
    let s : ℕ = q % b in
    let e : c * b + 4294967296 % b ≡ 4294967296 = div-add-mod' 4294967296 b in
    let f : k * b + s ≡ q = div-add-mod' q b in
    let t : 4294967296 % b < b = mod-lt 4294967296 (omega arith) in
    let u : s < b = mod-lt q (omega arith) in
    let w : k * b + b ≤ c = omega (arith, f, least b h l) in
    let p : (k * b + s) * (c + 1) ≡ q * (c + 1) = ap (λ (x : ℕ). x * (c + 1)) f in
    between (q * (c + 1)) k (omega (arith, p, at_least b c _ k s e t)) (omega (arith, p, below b c _ k s e u w))
