-- Document 01, 'The device': the device numbers, pages, blocks, groups, and the lengths they give. Assumes nothing.
use Rattle.std.specs.Prelude.{Bool, ◌&&◌, List, [], ◌∷◌, ℕ, ◌+◌, ◌*◌, ◌-◌, ◌/◌, ◌%◌, leb}

-- a / b rounded up, for b at least 1
abbrev pub ceil : ℕ → ℕ → ℕ
ceil a b = (a + (b - 1)) / b

-- The device numbers: M blocks of B pages, N logical pages, the error bound g (the paper's gamma).
pub record Device : Type 0 where
  pub M : ℕ
  pub B : ℕ
  pub N : ℕ
  pub g : ℕ

-- "M blocks (3 to 4,096) of B pages (4 to 256), N logical pages (at least 1, with 2 × N at most (M − 1) × B)
-- and an error bound g (0 to 15)"
unfoldable pub within_limits : Device → Bool
within_limits d =
    (leb 3 d.M && leb d.M 4096)
    && (leb 4 d.B && leb d.B 256)
    && (leb 1 d.N && leb (2 * d.N) ((d.M - 1) * d.B))
    && leb d.g 15

-- how many pages the device has; "Page numbers run from 0"
unfoldable pub pages : Device → ℕ
pages d = d.M * d.B

-- "block k holds pages k × B to k × B + B − 1": its first page
unfoldable pub first_page : Device → ℕ → ℕ
first_page d k = k * d.B

-- "A logical page's group is its number divided by 256 .."
abbrev pub group_of : ℕ → ℕ
group_of x = x / 256

-- ".. its offset the remainder"
abbrev pub offset_of : ℕ → ℕ
offset_of x = x % 256

-- how many groups the logical pages have
unfoldable pub group_count : Device → ℕ
group_count d = ceil d.N 256

-- how many bytes the marks of discarded logical pages take (document 02, a): a bit for each logical page
unfoldable pub marks_count : Device → ℕ
marks_count d = ceil d.N 8

-- "Each page has 2g + 1 spare entries": so many names, and no other entries
unfoldable pub names_per_page : Device → ℕ
names_per_page d = 2 * d.g + 1

unfoldable pub entries_per_page : Device → ℕ
entries_per_page d = names_per_page d

-- the spare entries of a block
unfoldable pub entries_per_block : Device → ℕ
entries_per_block d = d.B * entries_per_page d

-- the length of the spare area, in entries
unfoldable pub spare_length : Device → ℕ
spare_length d = d.M * entries_per_block d

-- docs/LAYOUT.md: the state's bytes are regions, one behind the other, each of so many cells of so many bytes.
pub record Region : Type 0 where
  pub cells : ℕ
  pub width : ℕ

-- the bytes of the device numbers, of a block's count, of eight marks, of a group
unfoldable pub head_length : ℕ
head_length = 16

unfoldable pub count_length : ℕ
count_length = 2

unfoldable pub marks_length : ℕ
marks_length = 1

unfoldable pub group_length : ℕ
group_length = 5636

-- "holds M, B, N, g, each block's count of written pages (0 is free) and the groups": in this order, the marks of discarded logical
-- pages before the groups
unfoldable pub regions : Device → List Region
regions d =
    record { cells = 1; width = head_length }
    ∷ record { cells = d.M; width = count_length }
    ∷ record { cells = marks_count d; width = marks_length }
    ∷ record { cells = group_count d; width = group_length }
    ∷ []

-- the bytes of some regions
unfoldable pub regions_length : List Region → ℕ
regions_length [] = 0
regions_length (r ∷ l) = r.cells * r.width + regions_length l

-- the length of the state
unfoldable pub state_length : Device → ℕ
state_length d = regions_length (regions d)
