-- Document 02, d: "From a format, the same calls with rightly sized slices give the same pages, plans, erased lists and refusals in both
-- engines; predicted pages and level counts belong to the learned one only." Assumes nothing.
use Rattle.std.specs.Prelude.{◌≡◌, List, true, ℕ, length}
use Rattle.model.specs.Device.{Device, within_limits, state_length, spare_length}
use Rattle.model.specs.State.{State}
use Rattle.calls.specs.Refusals.{Refusal}
use Rattle.calls.specs.Outcome as learned
use Rattle.calls.specs.Outcome.{Answer}
use Rattle.calls.specs.History as history
use Rattle.calls.specs.History.{Call, compact_call, agree_call, list_call, why_call}
use Rattle.plain.specs.Table.{Table, table_length}
use Rattle.plain.specs.Calls.{Common, format, flush, lookup, discard, collect, as_call, run}

-- The same answer, but for "predicted pages and level counts".
pub data Same : Answer → Answer → Type 0 where
  formats : Same learned.formatted learned.formatted
  flushes : (first count : ℕ) → Same (learned.flushed first count) (learned.flushed first count)
  finds : (page predicted levels predicted' levels' : ℕ) → Same (learned.found page predicted levels) (learned.found page predicted' levels')
  misses : (levels levels' : ℕ) → Same (learned.not_written levels) (learned.not_written levels')
  discards : Same learned.discarded learned.discarded
  collects : (first count erased : ℕ) → Same (learned.collected first count erased) (learned.collected first count erased)
  refuses : (r : Refusal) → Same (learned.refused r) (learned.refused r)

-- Both engines' slices between two calls: state and spare area of the learned one, the table of the plain one.
pub record Pair : Type 0 where
  pub state : State
  pub spare : List ℕ
  pub table : Table

-- "rightly sized slices": a format of numbers within limits finds each engine's of the lengths that these give
unfoldable pub Sized : Common → Pair → Type 0
Sized (format d) h =
    within_limits d ≡ true → (h.state.bytes ≡ state_length d) × (length h.spare ≡ spare_length d) × (h.table.bytes ≡ table_length d)
Sized (flush _ _) h = Unit {0}
Sized (lookup _) h = Unit {0}
Sized (discard _) h = Unit {0}
Sized (collect _ _) h = Unit {0}

-- what both make of a call
unfoldable pub both : Common → Pair → Pair
both c h = record {
  state = (history.run (as_call c) h.state h.spare).after.state;
  spare = (history.run (as_call c) h.state h.spare).after.spare;
  table = (run c h.table).after.table;
}

-- what the learned one makes of a call that it has alone
unfoldable pub alone : Call → Pair → Pair
alone c h = record {
  state = (history.run c h.state h.spare).after.state;
  spare = (history.run c h.state h.spare).after.spare;
  table = h.table;
}

-- compaction, agreement, listing and telling why run on the learned one alone
pub data Only : Call → Type 0 where
  compaction : (k : ℕ) → Only (compact_call k)
  agreement : (s : State) (spare : List ℕ) (s' : State) (spare' : List ℕ) → Only (agree_call s spare s' spare')
  listing : (k : ℕ) (out : List ℕ) → Only (list_call k out)
  telling : (x : ℕ) (out : List ℕ) → Only (why_call x out)

-- "the same calls": a list of them leads from one pair to another
pub data Together : Pair → Pair → Type 0 where
  nothing : (h : Pair) → Together h h
  then : (h : Pair) (c : Common) (h' : Pair) → Sized c h → Together (both c h) h' → Together h h'
  beside : (h : Pair) (c : Call) (h' : Pair) → Only c → Together (alone c h) h' → Together h h'

-- "From a format": one that both accept, whatever was there before
pub record FromFormat (h : Pair) : Type 0 where
  pub start : Pair
  pub device : Device
  pub numbers : within_limits device ≡ true
  pub sized : Sized (format device) start
  pub calls : Together (both (format device) start) h

-- THE CLAIM: the next call gives the same answer, plan and erased list in both.
pub record Alike (c : Common) (h : Pair) : Type 0 where
  pub answers : Same (history.run (as_call c) h.state h.spare).answer (run c h.table).answer
  pub plans : (history.run (as_call c) h.state h.spare).after.plan ≡ (run c h.table).after.plan
  pub erased : (history.run (as_call c) h.state h.spare).after.erased ≡ (run c h.table).after.erased

abbrev pub EnginesAgree : Type 0
EnginesAgree = (h : Pair) → FromFormat h → (c : Common) → Sized c h → Alike c h
