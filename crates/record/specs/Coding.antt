-- Document 01, 'The record': the eight bytes. "Eight bytes, little-endian: start S (1), span L (1), word (2), intercept I (4)." Assumes nothing.
use Rattle.std.specs.Prelude.{List, ◌∷◌, ◌++◌, ℕ, ◌+◌, ◌<◌, get_or}
use Rattle.octets.specs.Little.{le16, le32s, bits32, bytes2, bytes4}
use Rattle.record.specs.declared.Record.{Record}

abbrev pub record_width : ℕ
record_width = 8

-- the record in the eight bytes at p
unfoldable pub record_at : List ℕ → ℕ → Record
record_at s p = record { start = get_or s p 0; span = get_or s (p + 1) 0; word = le16 s (p + 2); intercept = le32s s (p + 4) }

-- a record's eight bytes
unfoldable pub eight : Record → List ℕ
eight r = r.start ∷ r.span ∷ (bytes2 r.word ++ bytes4 (bits32 r.intercept))

-- start, span and word fit their bytes; the struct's intercept always fits
abbrev pub InEight : Record → Type 0
InEight r = (r.start < 256) × (r.span < 256) × (r.word < 65536)
