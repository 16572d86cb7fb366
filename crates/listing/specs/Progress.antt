-- Between two bytes of the input: what has come of a line, and what each byte does. Assumes nothing.
use Rattle.std.specs.Prelude.{◌≡◌, List, [], ◌∷◌, ◌++◌, true, false, ℕ, ◌≤◌, ltb, eqb, length, take}
use Rattle.model.specs.Sound.{is_empty}
use Rattle.lines.specs.Printed.{Laid}
use Rattle.listing.specs.declared.lent.Held.{Held}
use Rattle.listing.specs.Sizes.{line_room, reply_room}
use Rattle.listing.specs.Session.{Session, unformatted, Reply, reply_to, newline, session_after}
use Rattle.listing.specs.Memory.{in_use, InMemory, Beyond}

-- The session, and what has come of a line: of one that is longer than any call's, as much as shows that it is.
pub record Progress : Type 0 where
  pub session : Session
  pub come : List ℕ

-- before the first byte
unfoldable pub start : Progress
start = record { session = unformatted; come = [] }

-- one more byte of a line
unfoldable pub longer : List ℕ → ℕ → List ℕ
longer l c = elim (ltb (length l) line_room) [ true ↦ l ++ (c ∷ []) | false ↦ l ]

-- what a byte leaves: a newline ends the line, any other byte belongs to it
unfoldable pub took : ℕ → Progress → Progress
took c p =
    elim (eqb c newline) [
      | true ↦ record { session = (reply_to p.come p.session).left; come = [] }
      | false ↦ record { session = p.session; come = longer p.come c }
    ]

-- and what it prints
unfoldable pub took_prints : ℕ → Progress → List ℕ
took_prints c p = elim (eqb c newline) [ true ↦ (reply_to p.come p.session).printed | false ↦ [] ]

-- the same of bytes, one after the other
unfoldable pub fed : List ℕ → Progress → Progress
fed [] p = p
fed (c ∷ cs) p = fed cs (took c p)

unfoldable pub fed_prints : List ℕ → Progress → List ℕ
fed_prints [] p = []
fed_prints (c ∷ cs) p = took_prints c p ++ fed_prints cs (took c p)

-- the end of the input: "the last line may lack its newline"
unfoldable pub ending : Progress → Reply
ending p = elim (is_empty p.come) [ true ↦ record { printed = []; left = p.session } | false ↦ reply_to p.come p.session ]

-- Between two bytes: the lengths in use, how many bytes of a line have come, and how many bytes wait in the output buffer.
pub record Cursor : Type 0 where
  pub held : Held
  pub filled : ℕ
  pub laid : ℕ

-- how far the code is, by its memory and its line buffer
abbrev pub progress : Cursor → List ℕ → List ℕ → List ℕ → Progress
progress c line state spare = record { session = in_use c.held state spare; come = take c.filled line }

-- the memory is ready, the line buffer holds what has come of a line, and the output buffer has room for what a line prints
pub record Going (c : Cursor) (line state spare out : List ℕ) : Type 0 where
  pub ready : InMemory c.held state spare
  pub buffer : length line ≡ line_room
  pub come : c.filled ≤ line_room
  pub room : length out ≡ reply_room

-- A byte taken: the progress that it leaves, what it prints laid out, and what lies beyond the lengths then in use as it was.
pub record Stepped (byte : ℕ) (p : Progress) (state spare out : List ℕ) (c : Cursor) (line' state' spare' out' : List ℕ) : Type 0 where
  pub going : Going c line' state' spare' out'
  pub leaves : progress c line' state' spare' ≡ took byte p
  pub prints : Laid out out' 0 c.laid (took_prints byte p)
  pub beyond : Beyond c.held.state c.held.spare state spare state' spare'

-- Bytes taken, one after the other; no output waits.
pub record Fed (bytes : List ℕ) (p : Progress) (c : Cursor) (line' state' spare' out' : List ℕ) : Type 0 where
  pub going : Going c line' state' spare' out'
  pub leaves : progress c line' state' spare' ≡ fed bytes p
  pub handed : c.laid ≡ 0

-- Bytes taken up to one whose print could not be handed over: what the bytes up to it leave.
pub record Stopped (bytes : List ℕ) (p : Progress) (line' state' spare' out' : List ℕ) : Type 0 where
  pub taken : ℕ
  pub cursor : Cursor
  pub going : Going cursor line' state' spare' out'
  pub leaves : progress cursor line' state' spare' ≡ fed (take taken bytes) p

-- The memory at the end holds the session that a script leaves: where no clause says what is read, the script is what came.
pub record Left (state spare : List ℕ) : Type 0 where
  pub script : List ℕ
  pub held : Held
  pub ready : InMemory held state spare
  pub session : in_use held state spare ≡ session_after script

-- The memory at the end holds the session that this script leaves.
pub record LeftBy (script state spare : List ℕ) : Type 0 where
  pub held : Held
  pub ready : InMemory held state spare
  pub session : in_use held state spare ≡ session_after script
