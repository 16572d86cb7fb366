-- The smallest device, and what calls on a device are lent. Assumes nothing.
use Rattle.std.specs.Prelude.{List, [], ℕ, replicate}
use Rattle.model.specs.Device.{Device, state_length, spare_length}
use Rattle.calls.specs.Book.{blank_book}
use Rattle.calls.specs.History.{Call, flush_call, collect_call, Past}

-- "M 3, B 4, N 4, g 0"
unfoldable pub small : Device
small = record { M = 3; B = 4; N = 4; g = 0 }

-- buffers of the right lengths for a device, before its format; what they hold is of no account
unfoldable pub unformatted : Device → Past
unformatted d = record {
  state = record { bytes = state_length d; device = d; counts = []; marks = []; groups = [] };
  spare = replicate (spare_length d) 7;
  book = blank_book;
}

-- a flush and a collection with lists of the right lengths, full of 99, so that the entries that stay are seen
unfoldable pub flush_on : Device → List ℕ → Call
flush_on d batch = flush_call batch (replicate d.B 99)

unfoldable pub collect_on : Device → Call
collect_on d = collect_call (replicate d.B 99) (replicate d.M 99)
