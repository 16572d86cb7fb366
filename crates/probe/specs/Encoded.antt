-- The records' bytes, as tests read them. Assumes nothing.
use Rattle.std.specs.Prelude.{List, [], ◌∷◌, ◌++◌, ℕ}
use Rattle.model.specs.Learning.{Run}
use Rattle.record.specs.Read.{bare}
use Rattle.record.specs.Coding.{eight}

-- the eight bytes of each run's record, one after the other
unfoldable pub encoded : List Run → List ℕ
encoded [] = []
encoded (r ∷ rs) = eight (bare r.learned) ++ encoded rs
