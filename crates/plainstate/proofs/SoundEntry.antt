-- An entry is sound or not, by the tests that the code makes. Assumes nothing.
use mathlib.Core.Path.{◌≡◌, refl, sym}
use mathlib.Core.Logic.{◌≢◌}
use mathlib.Core.Bool.{Bool, true, false}
use Prim.Native.Nat.{ℕ, ◌*◌, ◌/◌, ◌%◌, ◌≤◌, ◌<◌}
use native.Mathlib.Omega.{arith}
use native.Mathlib.Nat.{mul-le-mul_right}
use lib.Dec.{ltb}
use lib.ListN.{get_or}
use borrow.Author.Tests.{ltb-true, ltb-false, eq-eqb, ne_eqb, lt-ltb, le-ltb}
use Rattle.model.specs.Device.{Device, pages, first_page}
use Rattle.model.proofs.Limits.{page-split}
use Rattle.plain.specs.Table.{Table, no_page, is_written, sound_entry}

-- the block of a page that exists is one of the blocks
pub block_inside : (d : Device) (p : ℕ) → p < d.M * d.B → p / d.B < d.M
unfolding first_page
block_inside d p h = go (ltb (p / d.B) d.M) refl
  where
    go : (t : Bool) → ltb (p / d.B) d.M ≡ t → p / d.B < d.M
    go true q = ltb-true (p / d.B) d.M q
    go false q = absurd (omega (arith, mul-le-mul_right d.B (ltb-false (p / d.B) d.M q), page-split d p))

module _ (t : Table) (e : ℕ) where
  pub no_page-sound : e ≡ no_page → true ≡ sound_entry t e
  unfolding sound_entry
  no_page-sound q = sym (rw (eq-eqb e no_page q))

  module _ (d : Device) (numbers : t.device ≡ d) (n : e ≢ no_page) where
    pub beyond_unsound : d.M * d.B ≤ e → false ≡ sound_entry t e
    unfolding sound_entry is_written pages
    beyond_unsound l = sym (rw (ne_eqb e no_page n, numbers, le-ltb e (d.M * d.B) l))

    pub count_decides : e < d.M * d.B → (c : ℕ) → c ≡ get_or t.counts (e / d.B) 0 → ltb (e % d.B) c ≡ sound_entry t e
    unfolding sound_entry is_written pages
    count_decides l c q = sym (rw (ne_eqb e no_page n, numbers, lt-ltb e (d.M * d.B) l, q))
