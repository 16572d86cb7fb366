-- Whether an entry names a logical page, by the ways that the code answers it, and the search for the lowest that does. Assumes nothing.
use mathlib.Core.Path.{◌≡◌, refl, sym, ◌∙◌}
use mathlib.Core.List.{List}
use mathlib.Core.Option.{none, some}
use mathlib.Core.Bool.{Bool, true, false}
use Prim.Native.Nat.{ℕ, suc, ◌+◌, ◌*◌, ◌-◌, ◌≤◌, ◌<◌}
use native.Mathlib.Omega.{arith}
use lib.Dec.{eqb}
use lib.ListN.{length, get_or}
use borrow.Author.Tests.{lt-ltb, le-ltb, le-leb, lt-leb, leb-true, eq-eqb, ne_eqb}
use Rattle.model.specs.Lists.{or_else}
use Rattle.model.specs.Device.{Device, pages, names_per_page, entries_per_page}
use Rattle.model.specs.Spare.{nobody, entry, middle, names, lowest_naming, page_named}
use Rattle.model.proofs.Bools.{and_l}
use Rattle.model.proofs.Lists.{get_or_default}

-- the entry at its place, n entries to a page
pub entry_read : (d : Device) (s : List ℕ) (p j n : ℕ) → n ≡ entries_per_page d → p * n + j < length s → get_or s (p * n + j) 0 ≡ entry d s p j
unfolding entry
entry_read d s p j n e h = get_or_default s (p * n + j) 0 nobody h ∙ rw e refl

module _ (d : Device) (s : List ℕ) (p x j : ℕ) where
  pub names-before : p + j < d.g → false ≡ names d s p x j
  unfolding names
  names-before h = rw (lt-leb d.g (p + j) h)

  pub names-behind : d.g ≤ p + j → pages d ≤ p + j - d.g → false ≡ names d s p x j
  unfolding names
  names-behind h l = rw (le-leb d.g (p + j) h, le-ltb (p + j - d.g) (pages d) l)

  pub names-inside : (r : ℕ) → d.g ≤ p + j → p + j - d.g < pages d → r ≡ entry d s p j → eqb r x ≡ names d s p x j
  unfolding names
  names-inside r h l e = rw (le-leb d.g (p + j) h, lt-ltb (p + j - d.g) (pages d) l, e)

  -- an entry that names x is for a page
  pub names_from : names d s p x j ≡ true → d.g ≤ p + j
  unfolding names
  names_from h = leb-true d.g (p + j) (search and_l)

-- the search among the n entries of page p begins, ..
pub lowest_start : (d : Device) (s : List ℕ) (p x n : ℕ) → n ≡ entries_per_page d → lowest_naming d s p x 0 (names_per_page d) ≡ lowest_naming d s p x 0 (n - 0)
unfolding entries_per_page
lowest_start d s p x n e = let m : n - 0 ≡ n = omega arith in rw (m, e) refl

-- .. is at entry j, ..
module _ (d : Device) (s : List ℕ) (p x j n : ℕ) (t : Bool) (e : t ≡ names d s p x j) (h : j < n) where
  turn : lowest_naming d s p x j (n - j) ≡ or_else t (p + j - d.g) (lowest_naming d s p x (j + 1) (n - (j + 1)))
  unfolding lowest_naming
  turn =
      let m : n - j ≡ suc (n - (j + 1)) = omega arith in
      let f : j + 1 ≡ suc j = omega arith in
      rw (m, f, e) refl

  pub lowest-hit : t ≡ true → lowest_naming d s p x j (n - j) ≡ some (p + j - d.g)
  unfolding or_else
  lowest-hit y = turn ∙ rw y refl

  pub lowest_miss : t ≡ false → lowest_naming d s p x j (n - j) ≡ lowest_naming d s p x (j + 1) (n - (j + 1))
  unfolding or_else
  lowest_miss y = turn ∙ rw y refl

-- .. and ends
pub lowest-end : (d : Device) (s : List ℕ) (p x j n : ℕ) → n ≤ j → lowest_naming d s p x j (n - j) ≡ none
unfolding lowest_naming
lowest-end d s p x j n h = let m : n - j ≡ 0 = omega arith in rw m refl

-- the middle entry, r, first
module _ (d : Device) (s : List ℕ) (p x r : ℕ) (e : r ≡ middle d s p) where
  pub named-predicted : r ≡ x → some p ≡ page_named d s p x
  unfolding page_named or_else
  named-predicted y = rw (eq-eqb (middle d s p) x (sym e ∙ y))

  pub named-near : (r ≡ x → ⊥) → lowest_naming d s p x 0 (names_per_page d) ≡ page_named d s p x
  unfolding page_named or_else
  named-near y = rw (ne_eqb (middle d s p) x (λ z. y (e ∙ z)))
