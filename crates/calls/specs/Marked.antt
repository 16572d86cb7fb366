-- Document 02, a: what calls make of the marks, and what a mark makes of lookups and collections, on states of any content. Assumes
-- nothing.
use Rattle.std.specs.Prelude.{◌≡◌, List, [], ◌≢◌, true, false, ℕ, replicate}
use Rattle.std.proofs.Math.Option.{none}
use Rattle.model.specs.Device.{marks_count}
use Rattle.model.specs.Spare.{middle}
use Rattle.model.specs.Marks.{is_marked, mark, unmark_all}
use Rattle.model.specs.State.{State}
use Rattle.calls.specs.Refusals.{first_refusal}
use Rattle.calls.specs.Outcome.{not_written, accepted}
use Rattle.calls.specs.Lookup.{lookup_checks}
use Rattle.calls.specs.Collection.{valid}
use Rattle.calls.specs.History.{Call, format_call, flush_call, lookup_call, discard_call, collect_call, compact_call, agree_call, list_call, why_call, lend, run}

-- the marks after an accepted call: a format clears all, a flush those of the pages it writes, a discard sets its page's; no other call
-- changes one
unfoldable pub marks_after : Call → List ℕ → List ℕ
marks_after (format_call d) marks = replicate (marks_count d) 0
marks_after (flush_call batch plan) marks = unmark_all batch marks
marks_after (lookup_call x) marks = marks
marks_after (discard_call x) marks = mark x marks
marks_after (collect_call plan erased) marks = marks
marks_after (compact_call k) marks = marks
marks_after (agree_call s spare s' spare') marks = marks
marks_after (list_call k out) marks = marks
marks_after (why_call x out) marks = marks

abbrev pub MarksFollow : Type 0
MarksFollow = (c : Call) (s : State) (spare : List ℕ) → accepted (run c s spare).answer ≡ true
    → (run c s spare).after.state.marks ≡ marks_after c s.marks

-- "lookup then says 'not written' with 0 levels looked at", wherever 1, 2, 4 and 3 don't apply: it never refuses 7
abbrev pub MarkedUnwritten : Type 0
MarkedUnwritten = (s : State) (spare : List ℕ) (x : ℕ) → is_marked s.marks x ≡ true → first_refusal (lookup_checks x (lend s spare [] [])) ≡ none
    → (run (lookup_call x) s spare).answer ≡ not_written 0

-- a discard changes no other page's lookup
abbrev pub OthersStay : Type 0
OthersStay = (s : State) (spare : List ℕ) (x y : ℕ) → y ≢ x
    → (run (lookup_call y) (run (discard_call x) s spare).after.state spare).answer ≡ (run (lookup_call y) s spare).answer

-- "Collection treats its page as not valid"
abbrev pub MarkedInvalid : Type 0
MarkedInvalid = (s : State) (spare : List ℕ) (p : ℕ) → is_marked s.marks (middle s.device spare p) ≡ true → valid s spare p ≡ false
