-- Demand 3 on the bytes: the functions' contracts (`Ran`) as a machine, of which the demand of crates/calls is claimed: a list of calls
-- is any list of runs that follow `Ran` one after the other, on bytes and entries of any content at first. Assumes nothing.
use Rattle.std.specs.Prelude.{◌≡◌, List, ℕ, length}
use Rattle.model.specs.State.{free_blocks}
use Rattle.calls.specs.Outcome.{Answer}
use Rattle.calls.specs.Book.{Book, enter}
use Rattle.calls.specs.History.{Call, entry_of, Past}
use Rattle.calls.specs.Demand3 as calls
use Rattle.calls.specs.Demand3.{Machine, agreement_of}
use Rattle.state.specs.Reading.{read_state}
use Rattle.state.specs.Ran.{Slices, Ran}

-- The lent bytes and entries between two calls, and the book so far.
pub record Buffers : Type 0 where
  pub state : List ℕ
  pub spare : List ℕ
  pub book : Book

-- One run of a call's function: it was lent these buffers (its lists stand in c), followed its contract, and left those; the book
-- is fed its arguments and answer, plan and erased list included.
pub record Runs (h : Buffers) (c : Call) (a : Answer) (h' : Buffers) : Type 0 where
  pub left : Slices
  pub ran : Ran c h.state h.spare a left
  pub state : h'.state ≡ left.state
  pub spare : h'.spare ≡ left.spare
  pub entered : h'.book ≡ enter (entry_of c a left.plan left.erased) h.book

-- The functions as a machine.
abbrev pub functions : Machine
functions = record { Situation = Buffers; book = λ h. h.book; free = λ h. length (free_blocks 0 (read_state h.state).counts); Makes = Runs }

-- buffers as they are read
abbrev pub read_past : Buffers → Past
read_past h = record { state = read_state h.state; spare = h.spare; book = h.book }

-- the agreement of two states with their spare areas, as they are read
abbrev pub agreement : Buffers → Buffers → Call
agreement g h = agreement_of (read_past g) (read_past h)

-- Demand 3 of the functions: of every list of runs.
abbrev pub Demand3 : Type 0
Demand3 = calls.Demand3 functions agreement
