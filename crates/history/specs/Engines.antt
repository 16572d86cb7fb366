-- Document 02, d, on the bytes: "From a format, the same calls with rightly sized slices give the same pages, plans, erased lists and
-- refusals in both engines; predicted pages and level counts belong to the learned one only." A call is a run of both engines' functions
-- by their contracts, each on its own slices; of any content before the format. Assumes nothing.
use Rattle.std.specs.Prelude.{◌≡◌, List, true, ℕ, length}
use Rattle.model.specs.Device.{Device, within_limits, state_length, spare_length}
use Rattle.calls.specs.Outcome.{Answer}
use Rattle.calls.specs.History.{Call}
use Rattle.plain.specs.Table.{table_length}
use Rattle.plain.specs.Calls.{Common, format, flush, lookup, discard, collect, as_call}
use Rattle.plain.specs.Engines.{Same, Only}
use Rattle.plainstate.specs.Ran as plain
use Rattle.state.specs.Ran as learned

-- Both engines' slices between two calls: the learned one's state and spare area, the plain one's state.
pub record Pair : Type 0 where
  pub state : List ℕ
  pub spare : List ℕ
  pub plain_state : List ℕ

-- "rightly sized slices": a format of numbers within limits finds each engine's of the lengths that these give. They keep their lengths,
-- so that the other calls find them so too. A call's lists, which both are lent alike, may have any length.
unfoldable pub Sized : Common → Pair → Type 0
Sized (format d) h =
    within_limits d ≡ true
    → (length h.state ≡ state_length d) × (length h.spare ≡ spare_length d) × (length h.plain_state ≡ table_length d)
Sized (flush _ _) h = Unit {0}
Sized (lookup _) h = Unit {0}
Sized (discard _) h = Unit {0}
Sized (collect _ _) h = Unit {0}

-- "the same calls": one call run by both engines, with the same arguments and lists. Each function was lent its own slices, followed its
-- contract, gave its answer and left its slices.
pub record RunsBoth (c : Common) (h : Pair) : Type 0 where
  pub answer : Answer
  pub left : learned.Slices
  pub ran : learned.Ran (as_call c) h.state h.spare answer left
  pub plain_answer : Answer
  pub plain_left : plain.Slices
  pub plain_ran : plain.Ran c h.plain_state plain_answer plain_left

-- a call that the learned engine has alone
pub record RunsOne (c : Call) (h : Pair) : Type 0 where
  pub only : Only c
  pub answer : Answer
  pub left : learned.Slices
  pub ran : learned.Ran c h.state h.spare answer left

-- the slices for the next call
abbrev pub after_both : (c : Common) (h : Pair) → RunsBoth c h → Pair
after_both c h r = record { state = r.left.state; spare = r.left.spare; plain_state = r.plain_left.state }

abbrev pub after_one : (c : Call) (h : Pair) → RunsOne c h → Pair
after_one c h r = record { state = r.left.state; spare = r.left.spare; plain_state = h.plain_state }

-- a list of calls, refused ones included, leads from one pair to another
pub data Together : Pair → Pair → Type 0 where
  nothing : (h : Pair) → Together h h
  then : (h : Pair) (c : Common) (h' : Pair) → Sized c h → (r : RunsBoth c h) → Together (after_both c h r) h' → Together h h'
  beside : (h : Pair) (c : Call) (h' : Pair) (r : RunsOne c h) → Together (after_one c h r) h' → Together h h'

-- "From a format": of numbers within limits, on slices of any content that have the lengths these give
pub record FromFormat (h : Pair) : Type 0 where
  pub start : Pair
  pub device : Device
  pub numbers : within_limits device ≡ true
  pub sized : Sized (format device) start
  pub formats : RunsBoth (format device) start
  pub calls : Together (after_both (format device) start formats) h

-- "the same pages, plans, erased lists and refusals in both engines"
pub record Alike (c : Common) (h : Pair) (r : RunsBoth c h) : Type 0 where
  pub answers : Same r.answer r.plain_answer
  pub plans : r.left.plan ≡ r.plain_left.plan
  pub erased : r.left.erased ≡ r.plain_left.erased

-- THE CLAIM: of a format, whatever the slices held before, and of every call after a list of calls from it.
pub record EnginesAgree : Type 0 where
  pub formats : (h : Pair) (d : Device) → Sized (format d) h → (r : RunsBoth (format d) h) → Alike (format d) h r
  pub calls : (h : Pair) → FromFormat h → (c : Common) → Sized c h → (r : RunsBoth c h) → Alike c h r
