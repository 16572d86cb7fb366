-- What a collection chooses its blocks by: the tally of a table, and how it is counted. Assumes nothing.
use Rattle.std.specs.Prelude.{List, [], ◌∷◌, Bool, true, false, ℕ, suc, eqb, length}
use Rattle.model.specs.Lists.{select}
use Rattle.model.specs.Device.{Device, first_page}
use Rattle.calls.specs.PageMap.{is_some}
use Rattle.choice.specs.Tally.{free_entry, tally_by}
use Rattle.plain.specs.Table.{Table, naming}

-- a page is valid if an entry names it
abbrev pub tally_of : Table → List ℕ
tally_of t = tally_by (λ p. is_some (naming p 0 t.entries)) t.device t.counts

-- a block's entry, counted among its c written pages by a test, r of which pass
unfoldable pub entry_for : (c r : ℕ) → ℕ
entry_for c r = elim (eqb c 0) [ true ↦ free_entry | false ↦ r ]

-- those of the blocks with these counts, the first of which is block k's
unfoldable pub entries_from : (ℕ → Bool) → Device → ℕ → List ℕ → List ℕ
entries_from v d k [] = []
entries_from v d k (c ∷ cs) = entry_for c (length (select v c (first_page d k))) ∷ entries_from v d (suc k) cs
