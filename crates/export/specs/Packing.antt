-- The number that an exported function answers: `refusal × 2^60 + …`, refusal 0 where the call is accepted, and 0 for the rest
-- where it is refused. Assumes nothing.
use Rattle.std.specs.Prelude.{◌≡◌, List, true, false, ℕ, ◌+◌, ◌*◌}
use Rattle.model.specs.Device.{Device, within_limits, state_length, spare_length}
use Rattle.calls.specs.Refusals.{refusal_number}
use Rattle.calls.specs.Outcome.{Answer, formatted, flushed, found, not_written, discarded, collected, compacted, agreed, listed, explained, refused}
use Rattle.calls.specs.History.{Call}
use Rattle.state.specs.Ran.{Slices, Ran}
use Rattle.plain.specs.Table.{table_length}
use Rattle.plain.specs.Calls.{Common}
use Rattle.plainstate.specs.Ran as plain

-- The places of the fields behind the first.
abbrev pub bit20 : ℕ
bit20 = 1048576

abbrev pub bit40 : ℕ
bit40 = 1099511627776

abbrev pub bit56 : ℕ
bit56 = 72057594037927936

abbrev pub bit60 : ℕ
bit60 = 1152921504606846976

-- The number of each answer: document 01's refusal number and values, each in its field.
unfoldable pub packed : Answer → ℕ
packed formatted = 0
packed (flushed p n) = n * bit20 + p
packed (found p q n) = bit56 + n * bit40 + q * bit20 + p
packed (not_written n) = n * bit40
packed discarded = 0
packed (collected p n e) = e * bit40 + n * bit20 + p
packed (compacted n) = n
packed (agreed true) = 1
packed (agreed false) = 0
packed (listed n) = n
packed (explained n) = n
packed (refused r) = refusal_number r * bit60

-- What an exported call promises: it ran as document 01 says, and r is its answer's number.
pub record Packs (c : Call) (state spare : List ℕ) (r : ℕ) (left : Slices) : Type 0 where
  pub answer : Answer
  pub ran : Ran c state spare answer left
  pub is : r ≡ packed answer

-- "predicted pages and level counts belong to the learned one only": an answer of the plain engine as it is packed
unfoldable pub page_alone : Answer → Answer
page_alone formatted = formatted
page_alone (flushed p n) = flushed p n
page_alone (found p q n) = found p 0 0
page_alone (not_written n) = not_written 0
page_alone discarded = discarded
page_alone (collected p n e) = collected p n e
page_alone (compacted n) = compacted n
page_alone (agreed t) = agreed t
page_alone (listed n) = listed n
page_alone (explained n) = explained n
page_alone (refused r) = refused r

-- What an exported call of the plain engine promises: it ran as document 02 says, and r is its answer's number.
pub record PlainPacks (c : Common) (state : List ℕ) (r : ℕ) (left : plain.Slices) : Type 0 where
  pub answer : Answer
  pub ran : plain.Ran c state answer left
  pub is : r ≡ packed (page_alone answer)

-- A length that device numbers give; 0 where they are outside their limits.
unfoldable pub where_within : Device → ℕ → ℕ
where_within d n = elim (within_limits d) [ true ↦ n | false ↦ 0 ]

unfoldable pub state_len : Device → ℕ
state_len d = where_within d (state_length d)

unfoldable pub spare_len : Device → ℕ
spare_len d = where_within d (spare_length d)

unfoldable pub plain_state_len : Device → ℕ
plain_state_len d = where_within d (table_length d)
