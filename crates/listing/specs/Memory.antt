-- The program's memory: the part that a device uses, and what a call, a format and a line do to the memory. Assumes nothing.
use Rattle.std.specs.Prelude.{◌≡◌, List, Option, Some, None, Result, Ok, Err, ⊤, true, false, ℕ, ◌≤◌, length, take, drop}
use Rattle.model.specs.Device.{Device, state_length, spare_length}
use Rattle.calls.specs.Refusals.{refusal_number}
use Rattle.calls.specs.Outcome.{number}
use Rattle.answers.specs.declared.Refusal.{Refusal}
use Rattle.answers.specs.declared.Refusal.TheVariants.{BadNumbers}
use Rattle.answers.specs.Answers.{refusal_of}
use Rattle.calls.specs.History.{Call, format_call, run}
use Rattle.state.specs.Reading.{read_state}
use Rattle.lines.specs.Printed.{Laid}
use Rattle.listing.specs.declared.lent.Held.{Held}
use Rattle.listing.specs.Sizes.{block_room, plan_room, spare_room, state_room}
use Rattle.listing.specs.Session.{Session, Reply, takes_device}

-- the session that the memory holds: the bytes in use as they are read, and the spare entries in use
abbrev pub in_use : Held → List ℕ → List ℕ → Session
in_use h state spare = record { state = read_state (take h.state state); spare = take h.spare spare }

-- The program's memory, and the lengths in use, which lie inside it. 2,048 blocks are the most that 8,192 spare entries allow, and with
-- them 1,024 logical pages need 26,656 bytes of state. Blocks and pages are those of the state that is read.
pub record InMemory (h : Held) (state spare : List ℕ) : Type 0 where
  pub bytes : length state ≡ state_room
  pub entries : length spare ≡ spare_room
  pub state_used : h.state ≤ state_room
  pub spare_used : h.spare ≤ spare_room
  pub blocks_used : h.blocks ≤ block_room
  pub pages_used : h.pages ≤ plan_room
  pub blocks_read : h.blocks ≡ (in_use h state spare).state.device.M
  pub pages_read : h.pages ≡ (in_use h state spare).state.device.B

-- Each byte of state from s on and each spare entry from p on stays as it was.
pub record Beyond (s p : ℕ) (state spare state' spare' : List ℕ) : Type 0 where
  pub bytes : drop s state' ≡ drop s state
  pub entries : drop p spare' ≡ drop p spare

-- the lengths that a device uses
abbrev pub held_by : Device → Held
held_by d = record { state = state_length d; spare = spare_length d; blocks = d.M; pages = d.B }

-- the number that is printed for an answer: the refusal's, 0 where the call is accepted
unfoldable pub refusal_in : Result ⊤ Refusal → ℕ
refusal_in (Ok a) = 0
refusal_in (Err r) = refusal_number (refusal_of r)

-- A call on the first s bytes of state and p spare entries: the number that is printed (0 where the call is accepted, and nothing is), the
-- state and the spare area that it leaves there; a refused call changes no byte, and none changes what lies beyond.
pub record Obeyed (c : Call) (s p : ℕ) (state spare : List ℕ) (printed : ℕ) (state' spare' : List ℕ) : Type 0 where
  pub numbered : printed ≡ number (run c (read_state (take s state)) (take p spare)).answer
  pub state_read : read_state (take s state') ≡ (run c (read_state (take s state)) (take p spare)).after.state
  pub spare_left : take p spare' ≡ (run c (read_state (take s state)) (take p spare)).after.spare
  pub refused_bytes : (printed ≡ 0 → ⊥) → take s state' ≡ take s state
  pub beyond : Beyond s p state spare state' spare'

-- A format: a device that is taken is formatted in the lengths it uses; any other is refused, and the memory stays.
abbrev pub Takes : Device → List ℕ → List ℕ → Option Held → List ℕ → List ℕ → Type 0
Takes d state spare (Some h) state' spare' = (takes_device d ≡ true) × (h ≡ held_by d) × InMemory h state' spare' × Obeyed (format_call d) h.state h.spare state spare 0 state' spare'
Takes d state spare None state' spare' = (takes_device d ≡ false) × (state' ≡ state) × (spare' ≡ spare)

-- The same of the memory with the lengths in use: a format that is refused leaves them, and its refusal is 1.
abbrev pub Formats : Device → Held → List ℕ → List ℕ → Result ⊤ Refusal → Held → List ℕ → List ℕ → Type 0
Formats d h state spare (Ok a) h' state' spare' = Takes d state spare (Some h') state' spare'
Formats d h state spare (Err r) h' state' spare' = Takes d state spare None state' spare' × (h' ≡ h) × (r ≡ BadNumbers)

-- What a line comes to: the lengths in use after it, and how many bytes it prints.
pub record Turn : Type 0 where
  pub held : Held
  pub laid : ℕ

-- A line obeyed: the memory holds the session that the reply leaves, what lies beyond the lengths then in use is as it was, and what the
-- reply prints is laid out from the buffer's start on.
pub record Replied (a : Reply) (state spare out : List ℕ) (t : Turn) (state' spare' out' : List ℕ) : Type 0 where
  pub ready : InMemory t.held state' spare'
  pub leaves : in_use t.held state' spare' ≡ a.left
  pub beyond : Beyond t.held.state t.held.spare state spare state' spare'
  pub prints : Laid out out' 0 t.laid a.printed
