-- Demand 1: what a call's contract promises, one relation for all calls: the answer and every lent slice, as the definition of the call
-- gives them for the state that the bytes are read as. Demand 3 is a theorem about this very relation. Assumes nothing.
--
-- "Every call ends, for any state, spare area and numbers it is lent": each call's function has this relation as its contract and
-- requires nothing, and a proved function returns. Beside it compaction promises the bytes outside its group (Outside.antt).
use Rattle.std.specs.Prelude.{◌≡◌, List, [], false, ℕ}
use Rattle.calls.specs.Outcome.{Lent, Answer, accepted}
use Rattle.calls.specs.History.{Call, run}
use Rattle.state.specs.Reading.{read_state}

-- The lent slices as they are: the state's bytes, the spare entries, the plan, the list of erased blocks, a listing's bytes. One that
-- a call is not lent is empty.
pub record Slices : Type 0 where
  pub state : List ℕ
  pub spare : List ℕ
  pub plan : List ℕ
  pub erased : List ℕ
  pub out : List ℕ

-- as the definitions see them
abbrev pub as_read : Slices → Lent
as_read l = record { state = read_state l.state; spare = l.spare; plan = l.plan; erased = l.erased; out = l.out }

-- of a call that is lent state and spare area alone
abbrev pub device_slices : List ℕ → List ℕ → Slices
device_slices state spare = record { state = state; spare = spare; plan = []; erased = []; out = [] }

-- and of a listing
abbrev pub listing_slices : List ℕ → List ℕ → List ℕ → Slices
listing_slices state spare out = record { state = state; spare = spare; plan = []; erased = []; out = out }

-- Call c, lent these bytes and this spare area (its lists stand in c), gave this answer and left these slices.
pub record Ran (c : Call) (state spare : List ℕ) (answer : Answer) (left : Slices) : Type 0 where
  -- "and an accepted call gives the answer and leaves the buffers that document 01 states for it. A refused call gives the first
  -- refusal in that document's order that applies"
  pub answered : answer ≡ (run c (read_state state) spare).answer
  pub leaves : as_read left ≡ (run c (read_state state) spare).after
  -- "and changes no byte of any buffer."
  pub refused_bytes : accepted answer ≡ false → left.state ≡ state
