-- What a call is lent, what it answers and what it leaves. Assumes nothing.
use Rattle.std.specs.Prelude.{List, [], ◌∷◌, Bool, true, false, ℕ}
use Rattle.std.proofs.Math.Option.{Option, none, some}
use Rattle.model.specs.State.{State}
use Rattle.calls.specs.Refusals.{Refusal, refusal_number, Check, first_refusal}

-- The lent slices: the state as it is read, the spare area, the plan, the list of erased blocks, and what a listing is written
-- into. A call that is not lent one of them leaves it as it is.
pub record Lent : Type 0 where
  pub state : State
  pub spare : List ℕ
  pub plan : List ℕ
  pub erased : List ℕ
  pub out : List ℕ

-- the slices with another state; another spare area, plan, list of erased blocks, listing
abbrev pub with_state : State → Lent → Lent
with_state s x = record { state = s; spare = x.spare; plan = x.plan; erased = x.erased; out = x.out }

abbrev pub with_spare : List ℕ → Lent → Lent
with_spare l x = record { state = x.state; spare = l; plan = x.plan; erased = x.erased; out = x.out }

abbrev pub with_plan : List ℕ → Lent → Lent
with_plan l x = record { state = x.state; spare = x.spare; plan = l; erased = x.erased; out = x.out }

abbrev pub with_erased : List ℕ → Lent → Lent
with_erased l x = record { state = x.state; spare = x.spare; plan = x.plan; erased = l; out = x.out }

abbrev pub with_out : List ℕ → Lent → Lent
with_out l x = record { state = x.state; spare = x.spare; plan = x.plan; erased = x.erased; out = l }

-- The answers. Format: accepted. Flush: first page and count. Lookup: the page, the predicted page and how many levels were
-- looked at, or 'not written' with the number of levels. Discard: accepted. Collection: first page, count and number erased.
-- Compaction: the records left. Agreement: yes or no. Listing: the records listed. Telling why: the entries listed. Any call:
-- refused.
pub data Answer : Type 0 where
  formatted : Answer
  flushed : (first count : ℕ) → Answer
  found : (page predicted levels : ℕ) → Answer
  not_written : (levels : ℕ) → Answer
  discarded : Answer
  collected : (first count erased : ℕ) → Answer
  compacted : (left : ℕ) → Answer
  agreed : Bool → Answer
  listed : (records : ℕ) → Answer
  explained : (entries : ℕ) → Answer
  refused : Refusal → Answer

-- document 01's number of each case: 0 accepted, else the refusal's
unfoldable pub number : Answer → ℕ
number formatted = 0
number (flushed p n) = 0
number (found p q n) = 0
number (not_written n) = 0
number discarded = 0
number (collected p n e) = 0
number (compacted n) = 0
number (agreed t) = 0
number (listed n) = 0
number (explained n) = 0
number (refused r) = refusal_number r

unfoldable pub accepted : Answer → Bool
accepted formatted = true
accepted (flushed p n) = true
accepted (found p q n) = true
accepted (not_written n) = true
accepted discarded = true
accepted (collected p n e) = true
accepted (compacted n) = true
accepted (agreed t) = true
accepted (listed n) = true
accepted (explained n) = true
accepted (refused r) = false

-- and its values, in document 01's order
unfoldable pub values : Answer → List ℕ
values formatted = []
values (flushed p n) = p ∷ n ∷ []
values (found p q n) = p ∷ q ∷ n ∷ []
values (not_written n) = n ∷ []
values discarded = []
values (collected p n e) = p ∷ n ∷ e ∷ []
values (compacted n) = n ∷ []
values (agreed true) = 1 ∷ []
values (agreed false) = 0 ∷ []
values (listed n) = n ∷ []
values (explained n) = n ∷ []
values (refused r) = []

pub record Outcome : Type 0 where
  pub answer : Answer
  pub after : Lent

-- "A refused call gives the first refusal in that document's order that applies, and changes no byte of any buffer."
unfoldable pub outcome : Option Refusal → Lent → Outcome → Outcome
outcome none lent out = out
outcome (some r) lent out = record { answer = refused r; after = lent }

-- a call: its refusals in order, what it is lent, and what comes of it where none applies
unfoldable pub unless : List Check → Lent → Outcome → Outcome
unless checks lent out = outcome (first_refusal checks) lent out
