-- Demand 3, whole: one claim about every list of calls, made of any machine that runs them: the page map, the definitions, and the
-- functions on lent bytes by their contracts (crates/history); and the plain engine's two (crates/plain, crates/history). Assumes nothing.
use Rattle.std.specs.Prelude.{◌≡◌, List, ◌≢◌, ◌⊎◌, Bool, true, false, ℕ, ◌≤◌, ◌<◌, ltb, pos, length}
use Rattle.std.proofs.Math.Option.{some}
use Rattle.model.specs.Lists.{all}
use Rattle.model.specs.Device.{Device, group_of, offset_of, names_per_page}
use Rattle.model.specs.Record.{Record, predict}
use Rattle.model.specs.Spare.{entry}
use Rattle.model.specs.Levels.{listing, holder}
use Rattle.model.specs.State.{State, free_blocks, group_at}
use Rattle.calls.specs.Refusals.{not_sound, not_named, no_free_block}
use Rattle.calls.specs.Outcome.{Answer, found, not_written, refused, accepted}
use Rattle.calls.specs.Book as books
use Rattle.calls.specs.Book.{Arrival, Book, last_write}
use Rattle.calls.specs.History.{Call, format_call, flush_call, lookup_call, discard_call, collect_call, compact_call, agree_call, list_call, why_call, run, Past, step}
use Rattle.calls.specs.PageMap.{MapPast, MapMakes}

-- A machine: its situations, each with the book so far and the number of free blocks; and what it does: a call made in a situation
-- gives an answer and leads to the next situation. So "each call gets the state and the spare area as the last one left them, nobody
-- else changes the two meanwhile".
pub record Machine : Type 1 where
  pub Situation : Type 0
  pub book : Situation → Book
  pub free : Situation → ℕ
  pub Makes : Situation → Call → Answer → Situation → Type 0

-- The page map as a machine.
abbrev pub page_maps : Machine
page_maps = record { Situation = MapPast; book = λ h. h.book; free = λ h. length (free_blocks 0 h.map.counts); Makes = MapMakes }

-- What a call of the definitions does.
pub record Defined (h : Past) (c : Call) (a : Answer) (h' : Past) : Type 0 where
  pub answered : a ≡ (run c h.state h.spare).answer
  pub left : h' ≡ step c h

-- The definitions as a machine.
abbrev pub definitions : Machine
definitions = record { Situation = Past; book = λ h. h.book; free = λ h. length (free_blocks 0 h.state.counts); Makes = Defined }

-- A lookup's answer for x is right by the book.
pub data Right (b : Book) (x : ℕ) : Answer → Type 0 where
  -- "or says 'not written', this exactly when there was no write since the last accepted format": "'not written' stands exactly where
  -- that is a discard or there is none"; where there is none, whatever the levels looked at ..
  unwritten : (levels : ℕ) → b.last x ≡ books.nothing → Right b x (not_written levels)
  -- .. and where it is a discard, "lookup then says 'not written' with 0 levels looked at, until a flush writes it again"
  discarded_last : b.last x ≡ books.discard → Right b x (not_written 0)
  -- "finds the page that carries the last write to it, with one flash read where the prediction is right and two where it
  -- isn't": "its prediction is right where the predicted page carries the last write", which is exactly where it is the answered
  -- page, so that `reads` counts one there and two elsewhere
  written : (page predicted levels : ℕ) (w : Arrival) → last_write b x ≡ some w → b.carried page ≡ some w
      → (b.carried predicted ≡ some w → predicted ≡ page) → (predicted ≡ page → b.carried predicted ≡ some w)
      → Right b x (found page predicted levels)

-- A flush that fits the device: 1 to B logical pages below N, and a plan of B entries.
pub record Fits (d : Device) (batch plan : List ℕ) : Type 0 where
  pub filled : 1 ≤ length batch
  pub short : length batch ≤ d.B
  pub logical : all (λ y. ltb y d.N) batch ≡ true
  pub planned : length plan ≡ d.B

-- "lookups, compactions and refused calls"; "Discard joins .. the calls that may come between a refused flush and its repeat"; and
-- agreements, listings and tellings of why, which write neither state nor spare area
pub data Between : Call → Answer → Type 0 where
  a_lookup : (x : ℕ) (a : Answer) → Between (lookup_call x) a
  a_discard : (x : ℕ) (a : Answer) → Between (discard_call x) a
  a_compaction : (k : ℕ) (a : Answer) → Between (compact_call k) a
  an_agreement : (s : State) (spare : List ℕ) (s' : State) (spare' : List ℕ) (a : Answer) → Between (agree_call s spare s' spare') a
  a_listing : (k : ℕ) (out : List ℕ) (a : Answer) → Between (list_call k out) a
  a_telling : (x : ℕ) (out : List ℕ) (a : Answer) → Between (why_call x out) a
  a_refusal : (c : Call) (a : Answer) → accepted a ≡ false → Between c a

-- a call on the device: any but an agreement, which is of two other states
unfoldable pub on_device : Call → Bool
on_device (format_call d) = true
on_device (flush_call batch plan) = true
on_device (lookup_call x) = true
on_device (discard_call x) = true
on_device (collect_call plan erased) = true
on_device (compact_call k) = true
on_device (agree_call s spare s' spare') = false
on_device (list_call k out) = true
on_device (why_call x out) = true

module _ (m : Machine) where
  -- a list of calls, "refused ones included", leads from one situation to another
  pub data Leads : m.Situation → m.Situation → Type 0 where
    nothing : (h : m.Situation) → Leads h h
    then : (h : m.Situation) (c : Call) (a : Answer) (h₁ h₂ : m.Situation) → m.Makes h c a h₁ → Leads h₁ h₂ → Leads h h₂

  -- and so does a list of calls that may come between a refused flush, the collection and the repeated flush
  pub data Waits : m.Situation → m.Situation → Type 0 where
    nothing : (h : m.Situation) → Waits h h
    then : (h : m.Situation) (c : Call) (a : Answer) (h₁ h₂ : m.Situation) → Between c a → m.Makes h c a h₁ → Waits h₁ h₂ → Waits h h₂

  -- "For every list of these calls (format, flush, lookup, collection, compaction), refused ones included, that starts with an
  -- accepted format, whatever its buffers held before", "Discard joins demand 3's list": h is a situation that such a list leads to
  pub record FromFormat (h : m.Situation) : Type 0 where
    pub start : m.Situation
    pub device : Device
    pub answer : Answer
    pub formatted : m.Situation
    pub makes : m.Makes start (format_call device) answer formatted
    pub accepts : accepted answer ≡ true
    pub calls : Leads formatted h

  -- What a refused flush of this batch is helped by, from the situation that it left.
  pub record Helped (d : Device) (batch : List ℕ) (h : m.Situation) : Type 0 where
    -- "The one collection .. is itself accepted if its plan and erased list have the right lengths"
    pub collection : (h₁ : m.Situation) → Waits h h₁ → (plan erased : List ℕ) → length plan ≡ d.B → length erased ≡ d.M
        → (a : Answer) (h₂ : m.Situation) → m.Makes h₁ (collect_call plan erased) a h₂ → accepted a ≡ true
    -- "is accepted after one collection, whatever lookups, compactions and refused calls come between", and discards
    pub again : (h₁ : m.Situation) → Waits h h₁ → (plan erased : List ℕ) → length plan ≡ d.B → length erased ≡ d.M
        → (a : Answer) (h₂ : m.Situation) → m.Makes h₁ (collect_call plan erased) a h₂
        → (h₃ : m.Situation) → Waits h₂ h₃ → (plan' : List ℕ) → length plan' ≡ d.B
        → (a' : Answer) (h₄ : m.Situation) → m.Makes h₃ (flush_call batch plan') a' h₄ → accepted a' ≡ true

  -- The claim after such a list.
  pub record Demanded (h : m.Situation) : Type 0 where
    -- "and for every logical page: after the list a lookup finds the page that carries the last write to it, .. or says 'not
    -- written'"; "lookup of every logical page below N is accepted"
    pub lookups : (x : ℕ) → x < (m.book h).device.N
        → (a : Answer) (h' : m.Situation) → m.Makes h (lookup_call x) a h' → Right (m.book h) x a
    -- "the page that carries the last write": there is one
    pub only : (x p q : ℕ) (w : Arrival) → last_write (m.book h) x ≡ some w → (m.book h).carried p ≡ some w
        → (m.book h).carried q ≡ some w → p ≡ q
    -- discard refuses "as lookup does", so that of every logical page below N is accepted too
    pub discards : (x : ℕ) → x < (m.book h).device.N
        → (a : Answer) (h' : m.Situation) → m.Makes h (discard_call x) a h' → accepted a ≡ true
    -- a flush that fits is accepted; or it is refused 6, and then fewer than two blocks are free
    pub flushes : (batch plan : List ℕ) → Fits (m.book h).device batch plan
        → (a : Answer) (h' : m.Situation) → m.Makes h (flush_call batch plan) a h'
        → (accepted a ≡ true) ⊎ ((a ≡ refused no_free_block) × (m.free h < 2))
    -- "And a flush refused for want of a free block is accepted after one collection"
    pub helps : (batch plan : List ℕ) (h' : m.Situation) → m.Makes h (flush_call batch plan) (refused no_free_block) h'
        → Helped (m.book h).device batch h'
    -- "From a format, 3, 7 and 6 here", in a collection, "never occur."
    pub never : (c : Call) (a : Answer) (h' : m.Situation) → on_device c ≡ true → m.Makes h c a h'
        → (a ≢ refused not_sound) × (a ≢ refused not_named)
    pub room : (plan erased : List ℕ) (a : Answer) (h' : m.Situation) → m.Makes h (collect_call plan erased) a h' → a ≢ refused no_free_block

  -- Demand 3 of the calls on the device, after every such list.
  abbrev pub AfterFormat : Type 0
  AfterFormat = (h : m.Situation) → FromFormat h → Demanded h

-- Demand 3, of a machine that has states and spare areas and so knows an agreement of two situations.
pub record Demand3 (m : Machine) (agreement : m.Situation → m.Situation → Call) : Type 0 where
  pub after : AfterFormat m
  -- nor is an agreement of two states that both come from formats ever refused, wherever it is made
  pub agreements : (g h : m.Situation) → FromFormat m g → FromFormat m h → (i : m.Situation) (a : Answer) (i' : m.Situation)
      → m.Makes i (agreement g h) a i' → accepted a ≡ true

-- the agreement of two states with their spare areas
abbrev pub agreement_of : Past → Past → Call
agreement_of g h = agree_call g.state g.spare h.state h.spare

-- the page that the first record having x's offset as a member predicts for it
pub record Predicted (s : State) (x p : ℕ) : Type 0 where
  pub holding : Record
  pub holds : holder (offset_of x) (listing (group_at s (group_of x))) ≡ some holding
  pub predicts : predict holding (offset_of x) ≡ pos p

-- "no other page's entries may decide the answer", on states of any content: two spare areas of one length that have the same
-- entries at the predicted page give the same lookup
abbrev pub NoOtherPage : Type 0
NoOtherPage = (s : State) (spare spare' : List ℕ) (x : ℕ) → length spare ≡ length spare'
    → ((p j : ℕ) → Predicted s x p → j < names_per_page s.device → entry s.device spare p j ≡ entry s.device spare' p j)
    → (run (lookup_call x) s spare).answer ≡ (run (lookup_call x) s spare').answer
