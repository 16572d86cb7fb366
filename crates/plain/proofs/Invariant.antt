-- What holds between a table and a page map from a format on: the map's own invariant; the same device and counts, none above B; an
-- entry for each logical page, which names where the map has it. Assumes nothing.
use mathlib.Core.Path.{◌≡◌, refl}
use mathlib.Core.List.{List}
use mathlib.Core.Option.{some}
use mathlib.Core.Logic.{◌≢◌}
use mathlib.Core.Bool.{Bool, true, false}
use Prim.Native.Nat.{ℕ, ◌/◌, ◌%◌, ◌≤◌, ◌<◌}
use native.Mathlib.Omega.{arith}
use native.Mathlib.Nat.{mul-le-mul_left, mod-lt}
use lib.Dec.{ltb, leb}
use lib.ListN.{length, get_or, get_or-eq_default}
use borrow.Author.Tests.{ltb-true, ltb-false, lt-ltb}
use Rattle.model.specs.Lists.{all}
use Rattle.model.specs.Device.{Device, pages, within_limits}
use Rattle.model.proofs.Bools.{and_i}
use Rattle.model.proofs.Limits.{limits, page-inside, page-split}
use Rattle.calls.specs.PageMap.{PageMap}
use Rattle.calls.proofs.MapInvariant.{MapInv}
use Rattle.plain.specs.Table.{Table, table_length, no_page, page_of, is_written}

-- the table of a page map, with these entries
abbrev pub table_of : PageMap → List ℕ → Table
table_of m es = record { bytes = table_length m.device; device = m.device; counts = m.counts; entries = es }

-- The invariant, of a page map and entries.
pub record Inv (m : PageMap) (es : List ℕ) : Type 0 where
  pub map : MapInv m
  pub full : all (λ c. leb c m.device.B) m.counts ≡ true
  pub sized : length es ≡ m.device.N
  pub names : (x : ℕ) → x < m.device.N → page_of (get_or es x no_page) ≡ m.place x

-- A table shows a page map: it is the map's, with entries that have the invariant.
pub record Shown (t : Table) (m : PageMap) : Type 0 where
  pub entries : List ℕ
  pub is : t ≡ table_of m entries
  pub inv : Inv m entries

-- No page has the number that names none.
pub pages-below : (d : Device) → within_limits d ≡ true → pages d ≤ no_page
unfolding pages no_page
pages-below d h = let l = limits d h in omega (arith, mul-le-mul_left d.M l.most_B)

-- A block with written pages is one of the counts'.
pub counted : (cs : List ℕ) (k : ℕ) → 0 < get_or cs k 0 → k < length cs
counted cs k h = go (ltb k (length cs)) refl
  where
    go : (t : Bool) → ltb k (length cs) ≡ t → k < length cs
    go true e = ltb-true k (length cs) e
    go false e = absurd (omega (arith, get_or-eq_default cs 0 (ltb-false k (length cs) e)))

module _ (m : PageMap) (v : MapInv m) (x p : ℕ) (h : x < m.device.N) (e : m.place x ≡ some p) where
  -- A logical page lies on a page of the device ..
  pub lies_inside : p < pages m.device
  lies_inside =
      let d : Device = m.device in
      let b : 0 < d.B = omega (arith, (limits d v.limits).least_B) in
      let k : p / d.B < d.M = omega (arith, counted m.counts (p / d.B) (omega (arith, v.written x p h e)), v.counted) in
      omega (arith, page-inside d (p / d.B) (p % d.B) k (mod-lt p b), page-split d p)

  -- .. so its number is one that names a page ..
  pub lies_named : p ≢ no_page
  lies_named q = absurd (omega (arith, lies_inside, pages-below m.device v.limits))

  -- .. and that page is written.
  pub lies_written : (es : List ℕ) → is_written (table_of m es) p ≡ true
  unfolding is_written
  lies_written es = and_i _ _ (lt-ltb p _ lies_inside) (lt-ltb _ _ (v.written x p h e))
