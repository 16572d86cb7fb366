-- What the writes do to the owner of an offset: 0, or the start of its record plus 1. Assumes nothing.
use Rattle.std.specs.Prelude as code
use Rattle.std.specs.Prelude.{Bool, true, false, not, ◌&&◌, ℕ, suc, eqb}
use Rattle.model.specs.Record as model
use Rattle.model.specs.Record.{kind_of, is_approximate}
use Rattle.record.specs.declared.Record.{Record}
use Rattle.record.specs.Read.{as_record}
use Rattle.group.specs.Reading.{owned_as}

-- a where the test holds, otherwise b
unfoldable pub either : Bool → ℕ → ℕ → ℕ
either true a b = a
either false a b = b

-- owner w names the record that starts at `start`
abbrev pub owner_is : ℕ → ℕ → Bool
owner_is w start = eqb w (suc start)

-- an offset that is taken names `start`
unfoldable pub taken_by : ℕ → Bool → ℕ → ℕ
unfolding either
taken_by start taken w = either taken (suc start) w

-- an offset whose owner names `start` stays with it where it isn't taken
unfoldable pub left_to : ℕ → Bool → ℕ → Bool
left_to start taken w = owner_is w start && not taken

-- whoever named `start` names nobody, where the offset is taken, and otherwise the new start
unfoldable pub handed_on : ℕ → Bool → ℕ → ℕ → ℕ
unfolding either
handed_on start taken newStart w = either (owner_is w start) (either taken 0 (suc newStart)) w

-- the start of what is left of a record, if something is
unfoldable pub start_left : code.Option Record → ℕ
start_left (code.Some u) = u.start
start_left code.None = 0

-- the owner of an offset, when x is left of record r: an approximate record's offsets that are taken name nobody, the
-- others what is left of it; no other record owns any
unfoldable pub owner_left : Record → code.Option Record → Bool → ℕ → ℕ
unfolding either
owner_left r x taken w = either (is_approximate (kind_of r.word)) (handed_on r.start taken (start_left x) w) w

-- the record with the offsets that it owns, where w is the owner of each
abbrev pub owning : (ℕ → ℕ) → Record → model.Record
owning w r = as_record r (owned_as (kind_of r.word) w r.start)
