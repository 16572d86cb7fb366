-- Document 01, 'The book': what each page carries, and the last write to each logical page; document 02, a: discards. Assumes nothing.
use Rattle.std.specs.Prelude.{List, Bool, true, false, ◌&&◌, ℕ, suc, ◌+◌, ◌-◌, ◌/◌, ltb, leb, eqb, get_or}
use Rattle.std.proofs.Math.Option.{Option, none, some}
use Rattle.model.specs.Lists.{elem}
use Rattle.model.specs.Device.{Device}
use Rattle.model.specs.Learning.{latest}

-- "a write (a call's place in the list and an arrival index)"
pub record Arrival : Type 0 where
  pub call : ℕ
  pub index : ℕ

-- What befell a logical page last, since the last accepted format: nothing yet, a write, or a discard.
pub data Event : Type 0 where
  nothing : Event
  write : Arrival → Event
  discard : Event

-- the write that it is, if it is one
unfoldable pub write_of : Event → Option Arrival
write_of nothing = none
write_of (write w) = some w
write_of discard = none

-- "For each page it holds what the page carries: a write .. or nothing." Beside it the last event of each logical page, the
-- number of calls so far, and the device numbers that the last accepted format was given.
pub record Book : Type 0 where
  pub calls : ℕ
  pub device : Device
  pub carried : ℕ → Option Arrival
  pub last : ℕ → Event

-- "The last write to a logical page": "'Last write' now means the later of write and discard", so there is none where that is a discard
abbrev pub last_write : Book → ℕ → Option Arrival
last_write b x = write_of (b.last x)

-- before any call
unfoldable pub blank_book : Book
blank_book = record { calls = 0; device = record { M = 0; B = 0; N = 0; g = 0 }; carried = λ p. none; last = λ x. nothing }

-- What the book is fed of a call: "the calls' arguments and answers, plan and erased list included, and nothing from state or
-- spare area". An accepted format with the device numbers it was given; an accepted flush with its batch, first page, count
-- and plan; an accepted discard with its logical page; an accepted collection with first page, count, plan and the erased blocks
-- listed; any other call, or a refused one.
pub data Entry : Type 0 where
  format_entry : Device → Entry
  flush_entry : (batch : List ℕ) (first count : ℕ) (plan : List ℕ) → Entry
  discard_entry : (page : ℕ) → Entry
  collect_entry : (first count : ℕ) (plan erased : List ℕ) → Entry
  no_entry : Entry

-- page q is p + i for an i below n
unfoldable pub among : (p n q : ℕ) → Bool
among p n q = leb p q && ltb q (p + n)

-- "page p + i (p the first page, i below the count) carries this call's write with arrival index plan entry i"
unfoldable pub carried_flush : ℕ → ℕ → ℕ → List ℕ → (ℕ → Option Arrival) → ℕ → Option Arrival
carried_flush c p n plan old q =
    elim (among p n q) [ true ↦ some (record { call = c; index = get_or plan (q - p) 0 }) | false ↦ old q ]

-- "page p + i carries what the page in plan entry i carried before"
unfoldable pub carried_copy : ℕ → ℕ → List ℕ → (ℕ → Option Arrival) → ℕ → Option Arrival
carried_copy p n plan old q = elim (among p n q) [ true ↦ old (get_or plan (q - p) 0) | false ↦ old q ]

-- "then the pages of the erased blocks listed carry nothing"
unfoldable pub carried_erased : ℕ → List ℕ → (ℕ → Option Arrival) → ℕ → Option Arrival
carried_erased B blocks old q = elim (elem (q / B) blocks) [ true ↦ none | false ↦ old q ]

-- "The last write to a logical page is its latest arrival in an accepted flush since the last accepted format."
unfoldable pub last_or : ℕ → Option ℕ → Event → Event
last_or c none old = old
last_or c (some i) old = write (record { call = c; index = i })

unfoldable pub last_flush : ℕ → List ℕ → (ℕ → Event) → ℕ → Event
last_flush c batch old x = last_or c (latest x 0 batch) (old x)

-- a discard of x is its last event
unfoldable pub last_discard : ℕ → (ℕ → Event) → ℕ → Event
last_discard x old y = elim (eqb y x) [ true ↦ discard | false ↦ old y ]

-- the book after one more call
unfoldable pub enter : Entry → Book → Book
enter (format_entry d) b = record { calls = suc b.calls; device = d; carried = λ p. none; last = λ x. nothing }
enter (flush_entry batch p n plan) b = record {
  calls = suc b.calls;
  device = b.device;
  carried = carried_flush b.calls p n plan b.carried;
  last = last_flush b.calls batch b.last;
}
enter (discard_entry x) b = record { calls = suc b.calls; device = b.device; carried = b.carried; last = last_discard x b.last }
enter (collect_entry p n plan erased) b = record {
  calls = suc b.calls;
  device = b.device;
  carried = carried_erased b.device.B erased (carried_copy p n plan b.carried);
  last = b.last;
}
enter no_entry b = record { calls = suc b.calls; device = b.device; carried = b.carried; last = b.last }
