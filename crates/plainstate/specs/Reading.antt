-- docs/LAYOUT.md: how the plain state's bytes are read: the front, then an entry for each logical page. Assumes nothing.
use Rattle.std.specs.Prelude.{List, ℕ, ◌+◌, ◌*◌, length}
use Rattle.model.specs.Device.{Device}
use Rattle.octets.specs.Little.{le32}
use Rattle.front.specs.Tables.{list_from}
use Rattle.front.specs.Reading.{numbers_at, read_counts}
use Rattle.plain.specs.Table.{Table}

-- "the entry of logical page x in the 4 bytes at 16 + 2 × M + 4 × x"
unfoldable pub entry_place : Device → ℕ → ℕ
entry_place d x = 16 + 2 * d.M + 4 * x

-- one for each of the N logical pages
unfoldable pub read_entries : Device → List ℕ → List ℕ
read_entries d b = list_from (λ x. le32 b (entry_place d x)) 0 d.N

-- The table that the bytes are read as.
unfoldable pub read_table : List ℕ → Table
read_table b = record {
  bytes = length b;
  device = numbers_at b;
  counts = read_counts (numbers_at b) b;
  entries = read_entries (numbers_at b) b;
}
