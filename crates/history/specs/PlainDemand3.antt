-- Demand 3 of the plain engine, on the bytes: its functions' contracts (`Ran` of crates/plainstate) as a machine, as Demand3.antt has those of
-- the learned engine. A list of calls is any list of runs, on bytes of any content at first. Assumes nothing.
use Rattle.std.specs.Prelude.{◌≡◌, List, ℕ, length}
use Rattle.model.specs.State.{free_blocks}
use Rattle.calls.specs.Outcome.{Answer}
use Rattle.calls.specs.Book.{Book, enter}
use Rattle.calls.specs.History.{Call, entry_of}
use Rattle.calls.specs.Demand3.{Machine, AfterFormat}
use Rattle.plain.specs.Calls.{Common, as_call}
use Rattle.plain.specs.Machine.{Past}
use Rattle.plainstate.specs.Reading.{read_table}
use Rattle.plainstate.specs.Ran.{Slices, Ran}

-- The lent bytes between two calls, and the book so far. The plain engine "is lent no spare area".
pub record PlainBuffers : Type 0 where
  pub state : List ℕ
  pub book : Book

-- One run of a function of the plain engine: it was lent these bytes (its lists stand in the call), followed its contract, and left
-- those; the book is fed its arguments and answer, plan and erased list included. A call that only the learned engine has is no run.
pub record PlainRuns (h : PlainBuffers) (c : Call) (a : Answer) (h' : PlainBuffers) : Type 0 where
  pub common : Common
  pub called : c ≡ as_call common
  pub left : Slices
  pub ran : Ran common h.state a left
  pub state : h'.state ≡ left.state
  pub entered : h'.book ≡ enter (entry_of c a left.plan left.erased) h.book

-- The plain functions as a machine.
abbrev pub plain_functions : Machine
plain_functions = record {
  Situation = PlainBuffers;
  book = λ h. h.book;
  free = λ h. length (free_blocks 0 (read_table h.state).counts);
  Makes = PlainRuns;
}

-- buffers as they are read
abbrev pub read_plain : PlainBuffers → Past
read_plain h = record { table = read_table h.state; book = h.book }

-- Demand 3 of the plain functions: of every list of runs.
abbrev pub PlainDemand3 : Type 0
PlainDemand3 = AfterFormat plain_functions
