-- The bytes of the device numbers. Assumes nothing.
use Rattle.std.specs.Prelude.{List, ◌++◌, ℕ}
use Rattle.model.specs.Device.{Device}
use Rattle.octets.specs.Little.{bytes4}

-- "M, B, N, g, each 4 bytes"
unfoldable pub head_of : Device → List ℕ
head_of d = bytes4 d.M ++ bytes4 d.B ++ bytes4 d.N ++ bytes4 d.g
