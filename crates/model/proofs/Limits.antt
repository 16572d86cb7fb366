-- The device's limits as facts, what they give, and how page numbers split into a block and a place in it. Assumes nothing.
use mathlib.Core.Path.{◌≡◌, refl, sym, ◌∙◌, ap}
use mathlib.Core.Logic.{◌≢◌}
use mathlib.Core.Bool.{Bool, true, false}
use Prim.Native.Nat.{ℕ, ◌+◌, ◌*◌, ◌-◌, ◌/◌, ◌%◌, ◌≤◌, ◌<◌}
use native.Mathlib.Omega.{arith}
use native.Mathlib.Nat.{mul-le-mul_left, mul-le-mul_right, mul-add-div_right, div-eq_of_lt, mod-lt, div-add-mod'}
use lib.Dec.{ltb}
use borrow.Author.Tests.{leb-true, le-leb, ltb-true, ltb-false}
use Rattle.model.specs.Device.{Device, within_limits, pages, first_page, group_of, group_count, names_per_page, entries_per_page, entries_per_block, spare_length}
use Rattle.model.specs.Spare.{nobody}
use Rattle.model.proofs.Bools.{and_l, and_r, and_i}

-- What the document allows the device numbers to be.
pub record Limits (d : Device) : Type 0 where
  pub least_M : 3 ≤ d.M
  pub most_M : d.M ≤ 4096
  pub least_B : 4 ≤ d.B
  pub most_B : d.B ≤ 256
  pub least_N : 1 ≤ d.N
  pub most_N : 2 * d.N ≤ (d.M - 1) * d.B
  pub most_g : d.g ≤ 15

-- A device that passes the test is within the limits.
pub limits : (d : Device) → within_limits d ≡ true → Limits d
unfolding within_limits
limits d h = record {
  least_M = leb-true 3 d.M (search (and_l, and_r));
  most_M = leb-true d.M 4096 (search (and_l, and_r));
  least_B = leb-true 4 d.B (search (and_l, and_r));
  most_B = leb-true d.B 256 (search (and_l, and_r));
  least_N = leb-true 1 d.N (search (and_l, and_r));
  most_N = leb-true (2 * d.N) ((d.M - 1) * d.B) (search (and_l, and_r));
  most_g = leb-true d.g 15 (search (and_l, and_r));
}

-- A device within the limits passes the test.
pub limits_test : (d : Device) → Limits d → within_limits d ≡ true
unfolding within_limits
limits_test d l = search (and_i, le-leb, l.least_M, l.most_M, l.least_B, l.most_B, l.least_N, l.most_N, l.most_g) depth 8

-- Every logical page has a number below the one that names nobody.
pub N_below-nobody : (d : Device) → Limits d → d.N < nobody
N_below-nobody d l = omega (arith, l.most_N, l.most_M, mul-le-mul_left (d.M - 1) l.most_B)

-- Every logical page's group exists.
pub group-inside : (d : Device) (x : ℕ) → x < d.N → group_of x < group_count d
unfolding group_count
group-inside d x h = omega arith

-- A block's pages are pages of the device.
pub page-inside : (d : Device) (k i : ℕ) → k < d.M → i < d.B → first_page d k + i < pages d
unfolding first_page pages
page-inside d k i h l = omega (arith, mul-le-mul_right d.B h)

-- The block of a block's page is that block.
pub page-block : (d : Device) (k i : ℕ) → i < d.B → (first_page d k + i) / d.B ≡ k
unfolding first_page
page-block d k i h =
    let b : 0 < d.B = omega arith in
    let e : i / d.B ≡ 0 = div-eq_of_lt h in
    mul-add-div_right b k i ∙ rw e (omega arith)

-- Pages of two blocks are two pages.
pub page-apart : (d : Device) (k k' i i' : ℕ) → k' ≢ k → i < d.B → i' < d.B → first_page d k' + i' ≢ first_page d k + i
page-apart d k k' i i' n h h' e = n (sym (page-block d k' i' h') ∙ ap (λ (p : ℕ). p / d.B) e ∙ page-block d k i h)

-- A device with a page has blocks with pages.
some_page : (d : Device) (p : ℕ) → p < pages d → 0 < d.B
unfolding pages
some_page d p h = go (ltb 0 d.B) refl
  where
    go : (t : Bool) → ltb 0 d.B ≡ t → 0 < d.B
    go true e = ltb-true 0 d.B e
    go false e = absurd (omega (arith, mul-le-mul_left d.M (ltb-false 0 d.B e)))

-- .. at a place in that block ..
pub place_inside : (d : Device) (p : ℕ) → p < pages d → p % d.B < d.B
place_inside d p h = mod-lt p (some_page d p h)

-- .. from whose first page it is counted.
pub page-split : (d : Device) (p : ℕ) → first_page d (p / d.B) + p % d.B ≡ p
unfolding first_page
page-split d p = div-add-mod' p d.B

-- A page has names for every page as near as the error bound, on either side.
pub near-inside : (d : Device) (j : ℕ) → j ≤ d.g + d.g → j < names_per_page d
unfolding names_per_page
near-inside d j h = omega arith

-- A page has a middle entry.
pub g_inside : (d : Device) → d.g < names_per_page d
g_inside d = near-inside d d.g (omega arith)

-- A page's names are entries of it.
pub names-inside : (d : Device) → names_per_page d ≤ entries_per_page d
unfolding entries_per_page
names-inside d = omega arith

-- An entry of a block's page, counted from the block's first entry.
pub entry_place_lem : (d : Device) (k i j : ℕ) → (first_page d k + i) * entries_per_page d + j ≡ k * entries_per_block d + (i * entries_per_page d + j)
unfolding first_page entries_per_block
entry_place_lem d k i j = omega arith

-- It lies among the block's entries.
pub entry-in_block : (d : Device) (i j : ℕ) → i < d.B → j < entries_per_page d → i * entries_per_page d + j < entries_per_block d
unfolding entries_per_block
entry-in_block d i j h k = omega (arith, mul-le-mul_right (entries_per_page d) h)

-- A block's entries lie in the spare area.
pub block_in_spare : (d : Device) (k : ℕ) → k < d.M → k * entries_per_block d + entries_per_block d ≤ spare_length d
unfolding spare_length
block_in_spare d k h = omega (arith, mul-le-mul_right (entries_per_block d) h)
