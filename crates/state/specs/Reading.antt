-- docs/LAYOUT.md: how the state's bytes are read: the front, then the marks and the groups, each region by its reader. Assumes nothing.
use Rattle.std.specs.Prelude.{List, ℕ, length, get_or}
use Rattle.model.specs.Device.{Device}
use Rattle.model.specs.State.{State}
use Rattle.octets.specs.Little.{le16}
use Rattle.front.specs.Reading.{numbers_at, read_counts}
use Rattle.group.specs.Reading.{read_group}
use Rattle.state.specs.Regions.{count_region, marks_region, group_region, cell_place, read_region}

-- a block's count of written pages, "2 bytes": of its region's cells it is what the front reads (crates/state/proofs, Shaping.antt)
unfoldable pub read_count : List ℕ → ℕ
read_count c = le16 c 0

-- eight marks, "1 byte"
unfoldable pub read_marks : List ℕ → ℕ
read_marks c = get_or c 0 0

-- "block k's count of written pages in the 2 bytes at 16 + 2 × k", "byte k of the marks at 16 + 2 × M + k", "group k in the 5,636
-- bytes at 16 + 2 × M + (N + 7) / 8 + 5,636 × k"
abbrev pub count_place : Device → ℕ → ℕ
count_place d k = cell_place d count_region k

abbrev pub marks_place : Device → ℕ → ℕ
marks_place d k = cell_place d marks_region k

abbrev pub group_place : Device → ℕ → ℕ
group_place d k = cell_place d group_region k

-- The state that the bytes are read as.
unfoldable pub read_state : List ℕ → State
read_state b = record {
  bytes = length b;
  device = numbers_at b;
  counts = read_counts (numbers_at b) b;
  marks = read_region read_marks (numbers_at b) marks_region b;
  groups = read_region read_group (numbers_at b) group_region b;
}
