-- Document 02, c, on a small device: a stopped pass computed, and passes that are tempting and wrong; proofs/Stopping.antt refutes them.
-- Assumes nothing.
use Rattle.std.specs.Prelude.{◌≡◌, refl, List, [], ◌∷◌, ◌++◌, ℕ, suc, ◌+◌, ◌*◌, ◌-◌, ◌≤◌, ◌<◌, length, take, drop, replicate}
use Rattle.model.specs.Lists.{store}
use Rattle.model.specs.Device.{Device, entries_per_block, spare_length}
use Rattle.model.specs.Spare.{nobody, erase, pages_entries, block_entries, pass_block, Stopped}
use Rattle.cases.specs.Opens.{everything}

-- M 3, B 4, N 4, g 1: three entries to a page, twelve to a block
unfoldable pub wide : Device
wide = record { M = 3; B = 4; N = 4; g = 1 }

-- its spare area, as lent
unfoldable pub sevens : List ℕ
sevens = replicate 36 7

-- Stopped after five entries in block 1, of the two pages 0 and 1.
pub five : pass_block wide (0 ∷ 1 ∷ []) 1 5 sevens ≡ replicate 12 7 ++ (nobody ∷ 0 ∷ 1 ∷ 0 ∷ 1 ∷ []) ++ replicate 19 7
unfolding everything wide sevens
five = refl

-- a pass over block k, stopped after n entries
abbrev pub Pass : Type 0
Pass = Device → List ℕ → ℕ → ℕ → List ℕ → List ℕ

-- what document 02 wants of it
abbrev pub Stops : Pass → Type 0
Stops pass = (d : Device) (w : List ℕ) (k n : ℕ) (s : List ℕ) → k < d.M → length w ≤ d.B → n ≤ entries_per_block d → length s ≡ spare_length d
    → Stopped d w k n s (pass d w k n s)

-- one that erases its block first, and so writes each entry twice
unfoldable pub erases_first : Pass
erases_first d w k n s = pass_block d w k n (erase d k s)

-- one that doesn't stop
unfoldable pub runs_on : Pass
runs_on d w k n s = pass_block d w k (entries_per_block d) s

-- one that stops an entry too late
unfoldable pub one_more : Pass
one_more d w k n s = pass_block d w k (suc n) s

-- one that goes from the last entry to the first
unfoldable pub backwards : Pass
backwards d w k n s = store s (k * entries_per_block d + (entries_per_block d - n)) (drop (entries_per_block d - n) (block_entries d w))

-- one by which unused pages name their written neighbours
unfoldable pub rules_unused : Pass
rules_unused d w k n s = store s (k * entries_per_block d) (take n (pages_entries d w 0 d.B))
