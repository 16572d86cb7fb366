-- Demand 1 for the plain engine: what a call's contract promises, one relation for all calls, as crates/state's Ran. The theorem that
-- the two engines agree is about this very relation. Assumes nothing.
use Rattle.std.specs.Prelude.{◌≡◌, List, [], false, ℕ}
use Rattle.calls.specs.Outcome.{Answer, accepted}
use Rattle.plain.specs.Calls.{Common, Lent, run}
use Rattle.plainstate.specs.Reading.{read_table}

-- The lent slices as they are: the state's bytes, the plan, the list of erased blocks. One that a call is not lent is empty.
pub record Slices : Type 0 where
  pub state : List ℕ
  pub plan : List ℕ
  pub erased : List ℕ

-- as the definitions see them
abbrev pub as_read : Slices → Lent
as_read l = record { table = read_table l.state; plan = l.plan; erased = l.erased }

-- of a call that is lent the state alone
abbrev pub state_slices : List ℕ → Slices
state_slices state = record { state = state; plan = []; erased = [] }

-- Call c, lent these bytes (its lists stand in c), gave this answer and left these slices.
pub record Ran (c : Common) (state : List ℕ) (answer : Answer) (left : Slices) : Type 0 where
  pub answered : answer ≡ (run c (read_table state)).answer
  pub leaves : as_read left ≡ (run c (read_table state)).after
  -- "A refused call .. changes no byte of any buffer."
  pub refused_bytes : accepted answer ≡ false → left.state ≡ state
