-- A number for each record, added up over a list of records; so also how many records own an offset. Assumes nothing.
use Rattle.std.specs.Prelude.{List, [], ◌∷◌, Bool, true, false, ℕ, ◌+◌, ◌≤◌}
use Rattle.model.specs.Lists.{elem}
use Rattle.model.specs.Record.{Record}

-- the sum of the records' numbers
unfoldable pub total : (Record → ℕ) → List Record → ℕ
total m [] = 0
total m (r ∷ l) = m r + total m l

-- the number of a test: 1 where it holds, 0 where it fails
abbrev pub indicator : Bool → ℕ
indicator true = 1
indicator false = 0

-- 1 of a record that owns o, 0 of another
unfoldable pub owns : ℕ → Record → ℕ
owns o r = indicator (elem o r.owned)

-- each offset has at most one owner in the list
abbrev pub OwnedOnce : List Record → Type 0
OwnedOnce l = (o : ℕ) → total (owns o) l ≤ 1
