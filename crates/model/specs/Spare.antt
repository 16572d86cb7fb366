-- Document 01, 'The device', on the spare area: its entries, erasing, programming, and what a lookup reads; document 02, c: the pass
-- that erases and programs in one. Assumes nothing.
use Rattle.std.specs.Prelude.{◌≡◌, ◌⊎◌, List, [], ◌∷◌, ◌++◌, Bool, true, false, ◌&&◌, ℕ, zero, suc, ◌+◌, ◌*◌, ◌-◌, ◌≤◌, ◌<◌, ltb, leb, eqb, length, get_or, set, take, replicate}
use Rattle.std.proofs.Math.Option.{Option, none}
use Rattle.model.specs.Lists.{store, or_else}
use Rattle.model.specs.Device.{Device, pages, first_page, names_per_page, entries_per_page, entries_per_block}

-- "4,294,967,295 if it wrote none there": the entry that names nobody
abbrev pub nobody : ℕ
nobody = 4294967295

-- "stored page after page": entry j of page p
unfoldable pub entry : Device → List ℕ → ℕ → ℕ → ℕ
entry d spare p j = get_or spare (p * entries_per_page d + j) nobody

-- a page's middle entry, the one for the page itself
unfoldable pub middle : Device → List ℕ → ℕ → ℕ
middle d spare p = entry d spare p d.g

-- The entry rule: "Entry j of page p names the logical page that the same flush or collection wrote at p − g + j, or
-- 4,294,967,295 if it wrote none there." Here written lists the logical pages of that call, from its block's first page on,
-- and page i of the block is p.
unfoldable pub entry_rule : Device → List ℕ → ℕ → ℕ → ℕ
entry_rule d written i j = elim (ltb (i + j) d.g) [ true ↦ nobody | false ↦ get_or written (i + j - d.g) nobody ]

-- the n entries of page i by that rule, from entry j on
unfoldable pub ruled_entries : Device → List ℕ → ℕ → ℕ → ℕ → List ℕ
ruled_entries d written i j zero = []
ruled_entries d written i j (suc n) = entry_rule d written i j ∷ ruled_entries d written i (suc j) n

-- "it erases whole blocks": every entry of block k names nobody
unfoldable pub erase : Device → ℕ → List ℕ → List ℕ
erase d k spare = store spare (k * entries_per_block d) (replicate (entries_per_block d) nobody)

-- "programs each page of a block once after the erase": page i of block k
unfoldable pub program_page : Device → List ℕ → ℕ → ℕ → List ℕ → List ℕ
program_page d written k i spare =
    store spare ((first_page d k + i) * entries_per_page d) (ruled_entries d written i 0 (names_per_page d))

-- pages i, i + 1, .. of block k, n of them
unfoldable pub program_pages : Device → List ℕ → ℕ → ℕ → ℕ → List ℕ → List ℕ
program_pages d written k i zero spare = spare
program_pages d written k i (suc n) spare = program_pages d written k (suc i) n (program_page d written k i spare)

-- "A flush or collection erases its block first, so the pages it doesn't use name nobody."
unfoldable pub program_block : Device → List ℕ → ℕ → List ℕ → List ℕ
program_block d written k spare = program_pages d written k 0 (length written) (erase d k spare)

-- Document 02, c, "each entry of a flush's or collection's block written a single time": the entries of n written pages, from page i
-- on, in order, ..
unfoldable pub pages_entries : Device → List ℕ → ℕ → ℕ → List ℕ
pages_entries d written i zero = []
pages_entries d written i (suc n) = ruled_entries d written i 0 (names_per_page d) ++ pages_entries d written (suc i) n

-- .. and those of the block: of the written pages, then of the unused ones, as erased.
unfoldable pub block_entries : Device → List ℕ → List ℕ
block_entries d written =
    pages_entries d written 0 (length written) ++ replicate ((d.B - length written) * entries_per_page d) nobody

-- the pass over block k, "stopped after any k entries" (here n of them)
unfoldable pub pass_block : Device → List ℕ → ℕ → ℕ → List ℕ → List ℕ
pass_block d written k n spare = store spare (k * entries_per_block d) (take n (block_entries d written))

-- "the layer counts this as erase and programming": the pass writes the block's entries one by one, each a single time, from the first
-- to the last, and has then erased and programmed the block.
pub record OnePass (d : Device) (written : List ℕ) (k : ℕ) (spare : List ℕ) : Type 0 where
  pub starts : pass_block d written k 0 spare ≡ spare
  pub next : (n : ℕ) → n < entries_per_block d
      → pass_block d written k (suc n) spare
      ≡ set (pass_block d written k n spare) (k * entries_per_block d + n) (get_or (block_entries d written) n nobody)
  pub ends : pass_block d written k (entries_per_block d) spare ≡ program_block d written k spare

-- "leaves the block's first k final and every other byte as lent": of the spare area as lent, stopped after n entries, is left
pub record Stopped (d : Device) (written : List ℕ) (k n : ℕ) (lent left : List ℕ) : Type 0 where
  pub long : length left ≡ length lent
  pub final : (e : ℕ) → e < n → get_or left (k * entries_per_block d + e) nobody ≡ get_or (program_block d written k lent) (k * entries_per_block d + e) nobody
  pub others : (p : ℕ) → (p < k * entries_per_block d) ⊎ (k * entries_per_block d + n ≤ p) → get_or left p nobody ≡ get_or lent p nobody

-- Entry j of page p names the logical page x: "An entry for a page that doesn't exist names nobody."
unfoldable pub names : Device → List ℕ → ℕ → ℕ → ℕ → Bool
names d spare p x j = leb d.g (p + j) && ltb (p + j - d.g) (pages d) && eqb (entry d spare p j) x

-- the page of the lowest of n entries of page p, from entry j on, that names x
unfoldable pub lowest_naming : Device → List ℕ → ℕ → ℕ → ℕ → ℕ → Option ℕ
lowest_naming d spare p x j zero = none
lowest_naming d spare p x j (suc n) = or_else (names d spare p x j) (p + j - d.g) (lowest_naming d spare p x (suc j) n)

-- "The page is the predicted one if its middle spare entry names the logical page, else the one of the lowest entry there
-- that does": the page where p is predicted for x, if any
unfoldable pub page_named : Device → List ℕ → ℕ → ℕ → Option ℕ
page_named d spare p x = or_else (eqb (middle d spare p) x) p (lowest_naming d spare p x 0 (names_per_page d))
