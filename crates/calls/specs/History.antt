-- Lists of calls: "Each call gets the state and the spare area as the last one left them", its other arguments are arbitrary.
-- The book beside them is fed arguments and answers only. Assumes nothing.
use Rattle.std.specs.Prelude.{List, [], ◌∷◌, true, false, ℕ, get_or, take}
use Rattle.model.specs.Device.{Device}
use Rattle.model.specs.State.{State}
use Rattle.calls.specs.Outcome.{Lent, with_out, Answer, accepted, values, Outcome, unless}
use Rattle.calls.specs.Refusals.{Check}
use Rattle.calls.specs.Format.{format_checks, format_done}
use Rattle.calls.specs.Flush.{flush_checks, flush_done}
use Rattle.calls.specs.Lookup.{lookup_checks, lookup_done}
use Rattle.calls.specs.Discard.{discard_checks, discard_done}
use Rattle.calls.specs.Collection.{collect_checks, collect_done}
use Rattle.calls.specs.Compaction.{compact_checks, compact_done}
use Rattle.calls.specs.Agreement.{agree_checks, agree_done}
use Rattle.calls.specs.Listing.{list_checks, list_done}
use Rattle.calls.specs.Why.{why_checks, why_done}
use Rattle.calls.specs.Book.{Book, Entry, format_entry, flush_entry, discard_entry, collect_entry, no_entry, enter}

-- A call with its arguments and lent lists, state and spare area aside. "Calls that write neither of the two, such as
-- agreement, may come anywhere in the list": agreement is of any two states, this one's or others'.
pub data Call : Type 0 where
  format_call : Device → Call
  flush_call : (batch plan : List ℕ) → Call
  lookup_call : (page : ℕ) → Call
  discard_call : (page : ℕ) → Call
  collect_call : (plan erased : List ℕ) → Call
  compact_call : (group : ℕ) → Call
  agree_call : (first : State) (firstSpare : List ℕ) (second : State) (secondSpare : List ℕ) → Call
  list_call : (group : ℕ) (out : List ℕ) → Call
  why_call : (page : ℕ) (out : List ℕ) → Call

-- state and spare area, with the lists that a call brings
unfoldable pub lend : State → List ℕ → List ℕ → List ℕ → Lent
lend s spare plan erased = record { state = s; spare = spare; plan = plan; erased = erased; out = [] }

unfoldable pub lent_to : Call → State → List ℕ → Lent
lent_to (format_call d) s spare = lend s spare [] []
lent_to (flush_call batch plan) s spare = lend s spare plan []
lent_to (lookup_call x) s spare = lend s spare [] []
lent_to (discard_call x) s spare = lend s spare [] []
lent_to (collect_call plan erased) s spare = lend s spare plan erased
lent_to (compact_call k) s spare = lend s spare [] []
lent_to (agree_call a sa b sb) s spare = lend s spare [] []
lent_to (list_call k out) s spare = with_out out (lend s spare [] [])
lent_to (why_call y out) s spare = with_out out (lend s spare [] [])

-- its refusals in order
unfoldable pub checks_of : Call → Lent → List Check
checks_of (format_call d) x = format_checks d x
checks_of (flush_call batch _) x = flush_checks batch x
checks_of (lookup_call y) x = lookup_checks y x
checks_of (discard_call y) x = discard_checks y x
checks_of (collect_call _ _) x = collect_checks x
checks_of (compact_call k) x = compact_checks k x
checks_of (agree_call a sa b sb) x = agree_checks a sa b sb
checks_of (list_call k _) x = list_checks k x
checks_of (why_call y _) x = why_checks y x

-- what comes of it where none applies
unfoldable pub effect : Call → Lent → Outcome
effect (format_call d) x = format_done d x
effect (flush_call batch _) x = flush_done batch x
effect (lookup_call y) x = lookup_done y x
effect (discard_call y) x = discard_done y x
effect (collect_call _ _) x = collect_done x
effect (compact_call k) x = compact_done k x
effect (agree_call a sa b sb) x = agree_done a sa b sb x
effect (list_call k _) x = list_done k x
effect (why_call y _) x = why_done y x

-- a call on a state and a spare area
unfoldable pub run : Call → State → List ℕ → Outcome
run c s spare = unless (checks_of c (lent_to c s spare)) (lent_to c s spare) (effect c (lent_to c s spare))

-- value i of an answer, in document 01's order
unfoldable pub value : Answer → ℕ → ℕ
value a i = get_or (values a) i 0

-- what the book is fed of an accepted call, from its arguments, its answer and its lists as it left them
unfoldable pub accepted_entry : Call → Answer → List ℕ → List ℕ → Entry
accepted_entry (format_call d) a plan erased = format_entry d
accepted_entry (flush_call batch _) a plan erased = flush_entry batch (value a 0) (value a 1) plan
accepted_entry (lookup_call x) a plan erased = no_entry
accepted_entry (discard_call x) a plan erased = discard_entry x
accepted_entry (collect_call _ _) a plan erased = collect_entry (value a 0) (value a 1) plan (take (value a 2) erased)
accepted_entry (compact_call k) a plan erased = no_entry
accepted_entry (agree_call _ _ _ _) a plan erased = no_entry
accepted_entry (list_call _ _) a plan erased = no_entry
accepted_entry (why_call _ _) a plan erased = no_entry

unfoldable pub entry_of : Call → Answer → List ℕ → List ℕ → Entry
entry_of c a plan erased = elim (accepted a) [ true ↦ accepted_entry c a plan erased | false ↦ no_entry ]

-- What a list of calls leaves: state and spare area, and the book.
pub record Past : Type 0 where
  pub state : State
  pub spare : List ℕ
  pub book : Book

unfoldable pub past_after : Call → Outcome → Book → Past
past_after c o b = record {
  state = o.after.state;
  spare = o.after.spare;
  book = enter (entry_of c o.answer o.after.plan o.after.erased) b;
}

unfoldable pub step : Call → Past → Past
step c h = past_after c (run c h.state h.spare) h.book

unfoldable pub steps : List Call → Past → Past
steps [] h = h
steps (c ∷ cs) h = steps cs (step c h)
