-- docs/LAYOUT.md: where a region of the state begins, and the bytes of its cells. Assumes nothing.
use Rattle.std.specs.Prelude.{ℕ, ◌+◌, ◌*◌, List, get_or, take, drop}
use Rattle.model.specs.Device.{Device, Region, regions, regions_length}
use Rattle.front.specs.Tables.{list_from}

-- the regions by their place in the table `regions`, whose first is the device numbers
abbrev pub count_region : ℕ
count_region = 1

abbrev pub marks_region : ℕ
marks_region = 2

abbrev pub group_region : ℕ
group_region = 3

-- region r; none behind the last
abbrev pub region_at : List Region → ℕ → Region
region_at l r = get_or l r (record { cells = 0; width = 0 })

-- it begins behind those before it
unfoldable pub place_at : List Region → ℕ → ℕ
place_at l r = regions_length (take r l)

-- where its cell k begins
unfoldable pub cell_place : Device → ℕ → ℕ → ℕ
cell_place d r k = place_at (regions d) r + k * (region_at (regions d) r).width

-- the cell's bytes
unfoldable pub cell : Device → ℕ → List ℕ → ℕ → List ℕ
cell d r b k = take (region_at (regions d) r).width (drop (cell_place d r k) b)

-- a region is read cell by cell
unfoldable pub read_region : {A : Type 0} → (List ℕ → A) → Device → ℕ → List ℕ → List A
read_region f d r b = list_from (λ k. f (cell d r b k)) 0 (region_at (regions d) r).cells
