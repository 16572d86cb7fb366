-- Document 02, a: discard. "A new call takes a logical page and marks it discarded". Assumes nothing.
use Rattle.std.specs.Prelude.{List, ℕ}
use Rattle.model.specs.Marks.{mark}
use Rattle.model.specs.State.{State, with_marks}
use Rattle.calls.specs.Refusals.{Check}
use Rattle.calls.specs.Outcome.{Lent, with_state, discarded, Outcome}
use Rattle.calls.specs.Lookup.{lookup_checks}

-- "It refuses 1, 2, 4 and 3 as lookup does."
abbrev pub discard_checks : ℕ → Lent → List Check
discard_checks = lookup_checks

-- the state with logical page x marked: "the records stay", and all else
unfoldable pub discard_page : ℕ → State → State
discard_page x s = with_marks (mark x s.marks) s

-- It writes the mark and nothing else.
unfoldable pub discard_done : ℕ → Lent → Outcome
discard_done x lent = record { answer = discarded; after = with_state (discard_page x lent.state) lent }
