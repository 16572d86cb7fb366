-- Little-endian numbers in a list of bytes. Assumes nothing.
use Rattle.std.specs.Prelude.{ℕ, ◌+◌, ◌*◌, ◌/◌, ◌%◌, List, [], ◌∷◌, get_or, ℤ}
use Rattle.std.specs.Int.{w32}
use Rattle.std.proofs.Common.{to_z, of_z}

-- the number in the two bytes at p, the lowest first
unfoldable pub le16 : List ℕ → ℕ → ℕ
le16 s p = get_or s p 0 + 256 * get_or s (p + 1) 0

-- the number in the four bytes at p, the lowest first
unfoldable pub le32 : List ℕ → ℕ → ℕ
unfolding le16
le32 s p = le16 s p + 65536 * le16 s (p + 2)

-- the signed number whose 32 bits are n
unfoldable pub signed32 : ℕ → ℤ
signed32 n = to_z w32 n

-- the signed number in the four bytes at p
unfoldable pub le32s : List ℕ → ℕ → ℤ
unfolding signed32 le32
le32s s p = signed32 (le32 s p)

-- the 32 bits of a signed number
unfoldable pub bits32 : ℤ → ℕ
bits32 z = of_z w32 z

-- v below 65,536 as two bytes, the lowest first
unfoldable pub bytes2 : ℕ → List ℕ
bytes2 v = v % 256 ∷ v / 256 % 256 ∷ []

-- v below 2 ^ 32 as four bytes, the lowest first
unfoldable pub bytes4 : ℕ → List ℕ
bytes4 v = v % 256 ∷ v / 256 % 256 ∷ v / 256 / 256 % 256 ∷ v / 256 / 256 / 256 % 256 ∷ []
