-- Within the limits every number that the code computes is small, and an entry's place lies in the spare area. Assumes nothing.
use mathlib.Core.Path.{◌≡◌, refl}
use mathlib.Core.Bool.{true}
use Prim.Native.Nat.{ℕ, ◌+◌, ◌*◌, ◌-◌, ◌≤◌, ◌<◌}
use native.Mathlib.Omega.{arith}
use native.Mathlib.Nat.{mul-le-mul, mul-le-mul_right}
use Rattle.model.specs.Device.{Device, within_limits, pages, first_page, names_per_page, entries_per_page, entries_per_block, spare_length}
use Rattle.model.proofs.Limits.{limits, page-inside, block_in_spare}

-- how large the sizes get
pub record Sizes (d : Device) : Type 0 where
  pub bound : d.g ≤ 15
  pub some : 0 < entries_per_page d
  pub page : entries_per_page d ≤ 31
  pub block : entries_per_block d ≤ 7936
  pub area : spare_length d ≤ 32505856
  pub count : pages d ≤ 1048576
  pub long : d.B ≤ 256

pub sizes : (d : Device) → within_limits d ≡ true → Sizes d
unfolding pages names_per_page entries_per_page entries_per_block spare_length
sizes d h =
    let l = limits d h in
    let p : 2 * d.g + 1 ≤ 31 = omega (arith, l.most_g) in
    let b : d.B * (2 * d.g + 1) ≤ 256 * 31 = mul-le-mul l.most_B p in
    record {
      bound = l.most_g;
      some = omega arith;
      page = p;
      block = b;
      area = mul-le-mul l.most_M b;
      count = mul-le-mul l.most_M l.most_B;
      long = l.most_B;
    }

-- a block's entries from a page's, n, and the area's from a block's
pub block_size : (d : Device) (n : ℕ) → n ≡ entries_per_page d → d.B * n ≡ entries_per_block d
unfolding entries_per_block
block_size d n e = rw e refl

pub area-size : (d : Device) (n : ℕ) → n ≡ entries_per_block d → d.M * n ≡ spare_length d
unfolding spare_length
area-size d n e = rw e refl

-- entry j of page p, n entries to a page
pub entry-inside : (d : Device) (p j n : ℕ) → n ≡ entries_per_page d → p < pages d → j < entries_per_page d → p * n + j < spare_length d
unfolding pages entries_per_block spare_length
entry-inside d p j n e h k = rw e (omega (arith, mul-le-mul_right (entries_per_page d) h))

-- the entries of block k, n to a block
pub block_entries-inside : (d : Device) (k n : ℕ) → n ≡ entries_per_block d → k < d.M → k * n + n ≤ spare_length d
block_entries-inside d k n e h = rw e (block_in_spare d k h)

-- the entries of w pages of block k, n to a page, and behind them as many as are left of a stop
pub programmed-inside : (d : Device) (k n w stop r : ℕ) → n ≡ entries_per_page d → k < d.M → w ≤ d.B → stop ≤ entries_per_block d → r ≤ stop - w * n
    → k * (d.B * n) + w * n + r ≤ spare_length d
programmed-inside d k n w stop r e h f g l =
    let size = block_size d n e in
    omega (arith, size, block_entries-inside d k (d.B * n) size h, mul-le-mul_right n f)

-- page i of block k
pub page-small : (d : Device) (k i : ℕ) → within_limits d ≡ true → k < d.M → i < d.B → k * d.B + i < 1048576
unfolding first_page
page-small d k i w h l = omega (arith, page-inside d k i h l, (sizes d w).count)
