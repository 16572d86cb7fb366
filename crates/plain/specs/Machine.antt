-- The plain engine as a machine (crates/calls, Demand3.antt): demand 3 is claimed of it as of the learned one. Assumes nothing.
use Rattle.std.specs.Prelude.{length}
use Rattle.model.specs.State.{free_blocks}
use Rattle.calls.specs.Outcome.{Answer}
use Rattle.calls.specs.Book.{Book, enter}
use Rattle.calls.specs.History.{Call, entry_of}
use Rattle.calls.specs.Demand3.{Machine, AfterFormat}
use Rattle.plain.specs.Table.{Table}
use Rattle.plain.specs.Calls.{Common, as_call, Outcome, run}

-- The table between two calls, and the book so far.
pub record Past : Type 0 where
  pub table : Table
  pub book : Book

-- the book is fed the call's arguments and answer, plan and erased list included
unfoldable pub past_after : Common → Outcome → Book → Past
past_after c o b = record { table = o.after.table; book = enter (entry_of (as_call c) o.answer o.after.plan o.after.erased) b }

-- What a call does; the plain engine has no others.
pub data Made (h : Past) : Call → Answer → Past → Type 0 where
  made : (c : Common) → Made h (as_call c) (run c h.table).answer (past_after c (run c h.table) h.book)

abbrev pub tables : Machine
tables = record { Situation = Past; book = λ h. h.book; free = λ h. length (free_blocks 0 h.table.counts); Makes = Made }

-- Demand 3 of the plain engine.
abbrev pub Demand3 : Type 0
Demand3 = AfterFormat tables
