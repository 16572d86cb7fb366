-- Document 01, 'Operations', on collection: which blocks are taken and what is moved, by any test of a page's validity and any name of
-- a page, so that other tests and names find the same choice. Assumes nothing.
use Rattle.std.specs.Prelude.{List, [], ◌∷◌, ◌++◌, map, Bool, true, false, not, ℕ, ◌-◌, leb, length}
use Rattle.model.specs.Lists.{select}
use Rattle.model.specs.Device.{Device, first_page}
use Rattle.model.specs.Learning.{Write, sort}
use Rattle.model.specs.State.{used_blocks, lowest_in}
use Rattle.model.specs.Sound.{is_empty}

-- A used block and its valid pages, ascending.
pub record Used : Type 0 where
  pub block : ℕ
  pub pages : List ℕ

unfoldable pub used_by : (ℕ → Bool) → Device → ℕ → Used
used_by valid d k = record { block = k; pages = select valid d.B (first_page d k) }

-- a block into the order, before the first that has no fewer valid pages; blocks come from the highest number down
unfoldable pub rank : Used → List Used → List Used
rank u [] = u ∷ []
rank u (v ∷ l) = elim (leb (length u.pages) (length v.pages)) [ true ↦ u ∷ v ∷ l | false ↦ v ∷ rank u l ]

-- "Used blocks are ordered by valid pages, fewest first, ties by number"
unfoldable pub ranked : List Used → List Used
ranked [] = []
ranked (u ∷ l) = rank u (ranked l)

-- "and taken while the total is at most B": room is what is left of B
unfoldable pub take_while : ℕ → List Used → List Used
take_while room [] = []
take_while room (u ∷ l) = elim (leb (length u.pages) room) [ true ↦ u ∷ take_while (room - length u.pages) l | false ↦ [] ]

-- the blocks that a collection takes, in order
unfoldable pub victims_by : (ℕ → Bool) → Device → List ℕ → List Used
victims_by valid d counts = take_while d.B (ranked (map (used_by valid d) (used_blocks 0 counts)))

-- their numbers, "the erased blocks in order"
unfoldable pub blocks_of : List Used → List ℕ
blocks_of [] = []
blocks_of (u ∷ l) = u.block ∷ blocks_of l

-- their valid pages
unfoldable pub pages_of : List Used → List ℕ
pages_of [] = []
pages_of (u ∷ l) = u.pages ++ pages_of l

-- a valid page as a write to be: its logical page, and itself as the source
unfoldable pub copy_by : (ℕ → ℕ) → ℕ → Write
copy_by name p = record { logical = name p; source = p }

-- "Valid pages are put, sorted by logical page"
unfoldable pub moves_by : (ℕ → ℕ) → List Used → List Write
moves_by name us = sort (map (copy_by name) (pages_of us))

-- "first page (0 if count is 0)": "on the lowest-numbered free block (none is needed for total 0)"
unfoldable pub first_of : List Write → Device → List ℕ → ℕ
first_of [] d counts = 0
first_of (w ∷ ws) d counts = first_page d (lowest_in counts)

-- 8: "no block is used, or one is taken with total above 0"
unfoldable pub no_gain : List Used → Bool
no_gain [] = true
no_gain (u ∷ []) = not (is_empty u.pages)
no_gain (u ∷ v ∷ l) = false
