-- The written pages' entries, taken from a list of what lies around the pages. Assumes nothing.
use Rattle.std.specs.Prelude.{◌≡◌, List, [], ◌++◌, ℕ, zero, suc, ◌*◌, ◌-◌, take, drop}
use Rattle.model.specs.Lists.{store}

-- the entries of c pages, from page i on, n each: page i's are the n from place i on
unfoldable pub rows : List ℕ → ℕ → ℕ → ℕ → List ℕ
rows around n i zero = []
rows around n i (suc c) = take n (drop i around) ++ rows around n (suc i) c

-- The entries of the pages are written from place a on, no more than stop of them; r may be written after them.
abbrev pub Programmed : (around : List ℕ) → (pages n a stop : ℕ) → (lent left : List ℕ) → (r : ℕ) → Type 0
Programmed around pages n a stop lent left r = (r ≡ stop - pages * n) × (left ≡ store lent a (take stop (rows around n 0 pages)))
