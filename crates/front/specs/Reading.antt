-- docs/LAYOUT.md: how the front of a state is read from its bytes: the device numbers, then each block's count. Assumes nothing.
use Rattle.std.specs.Prelude.{List, ℕ, ◌+◌, ◌*◌}
use Rattle.model.specs.Device.{Device}
use Rattle.octets.specs.Little.{le16, le32}
use Rattle.front.specs.Tables.{list_from}

-- "M, B, N, g, each 4 bytes"
unfoldable pub numbers_at : List ℕ → Device
numbers_at b = record { M = le32 b 0; B = le32 b 4; N = le32 b 8; g = le32 b 12 }

-- "block k's count of written pages in the 2 bytes at 16 + 2 × k", for each of the M blocks
unfoldable pub read_counts : Device → List ℕ → List ℕ
read_counts d b = list_from (λ k. le16 b (16 + 2 * k)) 0 d.M
