-- Document 01, 'The device', on the state; with document 02, a, the marks of discarded logical pages. Assumes nothing.
use Rattle.std.specs.Prelude.{List, [], ◌∷◌, true, false, ℕ, suc, eqb, get_or}
use Rattle.model.specs.Device.{Device}
use Rattle.model.specs.Levels.{Group}

-- The state, "a lent byte slice, holds M, B, N, g, each block's count of written pages (0 is free) and the groups", and the marks'
-- bytes (Marks.antt). Beside them its length in bytes. How the rest is read from the bytes is docs/LAYOUT.md's; bytes that encode no
-- group are read as a group with an empty level, which is not sound.
pub record State : Type 0 where
  pub bytes : ℕ
  pub device : Device
  pub counts : List ℕ
  pub marks : List ℕ
  pub groups : List Group

-- the state with other counts; with other marks; with other groups
unfoldable pub with_counts : List ℕ → State → State
with_counts cs s = record { bytes = s.bytes; device = s.device; counts = cs; marks = s.marks; groups = s.groups }

unfoldable pub with_marks : List ℕ → State → State
with_marks ms s = record { bytes = s.bytes; device = s.device; counts = s.counts; marks = ms; groups = s.groups }

unfoldable pub with_groups : List Group → State → State
with_groups gs s = record { bytes = s.bytes; device = s.device; counts = s.counts; marks = s.marks; groups = gs }

-- group number k
unfoldable pub group_at : State → ℕ → Group
group_at s k = get_or s.groups k []

-- "(0 is free)": the free blocks among counts, the first of which is block k's, ascending
unfoldable pub free_blocks : ℕ → List ℕ → List ℕ
free_blocks k [] = []
free_blocks k (c ∷ cs) = elim (eqb c 0) [ true ↦ k ∷ free_blocks (suc k) cs | false ↦ free_blocks (suc k) cs ]

-- the used ones likewise
unfoldable pub used_blocks : ℕ → List ℕ → List ℕ
used_blocks k [] = []
used_blocks k (c ∷ cs) = elim (eqb c 0) [ true ↦ used_blocks (suc k) cs | false ↦ k ∷ used_blocks (suc k) cs ]

-- "the lowest-numbered free block", where there is one: by the counts, and of a state
unfoldable pub lowest_in : List ℕ → ℕ
lowest_in counts = get_or (free_blocks 0 counts) 0 0

abbrev pub lowest_free : State → ℕ
lowest_free s = lowest_in s.counts
