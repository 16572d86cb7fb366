-- The lines of a listing, read from the bytes that the call wrote. Assumes nothing.
use Rattle.std.specs.Prelude.{List, [], ◌++◌, ℕ, zero, suc, drop}
use Rattle.octets.specs.Little.{le16}
use Rattle.record.specs.Coding.{record_at}
use Rattle.lines.specs.Printed.{line_for}

-- those of the first n records, of ten bytes each: the record's eight, then its level in two
unfoldable pub lines_in : ℕ → List ℕ → List ℕ
lines_in zero b = []
lines_in (suc n) b = line_for (le16 b 8) (record_at b 0) ++ lines_in n (drop 10 b)
