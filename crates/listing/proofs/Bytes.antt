-- A byte taken: a newline ends the line, any other byte goes into the line buffer while that has room. Assumes nothing.
use mathlib.Core.Path.{◌≡◌, refl, sym, ◌∙◌}
use mathlib.Core.List.{List, [], ◌∷◌, ◌++◌}
use Prim.Native.Nat.{ℕ, ◌+◌, ◌≤◌, ◌<◌}
use native.Mathlib.Omega.{arith}
use native.Mathlib.Numerals.{add-one}
use borrow.Author.Tests.{ne_eqb, lt-ltb, le-ltb}
use lib.ListN.{length, set, take, length-set}
use lib.Seq.{length-take-le, take-suc-set}
use Rattle.octets.specs.Little.{le16, le32}
use Rattle.front.specs.Reading.{numbers_at}
use Rattle.state.specs.Reading.{read_state}
use Rattle.model.specs.Sound.{is_empty}
use Rattle.listing.specs.Sizes.{line_room, state_room, spare_room, reply_room}
use Rattle.listing.specs.Session.{reply_to, newline}
use Rattle.listing.specs.Memory.{Turn, in_use, Replied}
use Rattle.listing.specs.Progress.{Cursor, Progress, longer, took, took_prints, ending, progress, Going, Stepped}
use Rattle.listing.proofs.Replies.{laid_nothing, replied_as, replied_same}

-- a newline ends the line
pub newline-took : (c : ℕ) (p : Progress) → c ≡ newline → took c p ≡ record { session = (reply_to p.come p.session).left; come = [] }
unfolding took
newline-took c p e = rw e

pub newline-prints : (c : ℕ) (p : Progress) → c ≡ newline → took_prints c p ≡ (reply_to p.come p.session).printed
unfolding took_prints
newline-prints c p e = rw e

-- any other byte belongs to it, and prints nothing
pub other_took : (c : ℕ) (p : Progress) → (c ≡ newline → ⊥) → took c p ≡ record { session = p.session; come = longer p.come c }
unfolding took
other_took c p n = rw (ne_eqb c newline n, took)

pub other_prints : (c : ℕ) (p : Progress) → (c ≡ newline → ⊥) → took_prints c p ≡ []
unfolding took_prints
other_prints c p n = rw (ne_eqb c newline n, took_prints)

-- while the buffer has room the byte is put behind the others
room-longer : (l : List ℕ) (c : ℕ) → length l < line_room → longer l c ≡ l ++ (c ∷ [])
unfolding longer
room-longer l c h = rw (lt-ltb (length l) line_room h, longer)

-- a longer line stays as it is
full-longer : (l : List ℕ) (c : ℕ) → line_room ≤ length l → longer l c ≡ l
unfolding longer
full-longer l c h = rw (le-ltb (length l) line_room h, longer)

module _ (byte : ℕ) (c : Cursor) (line state spare out : List ℕ) (g : Going c line state spare out) where
  abbrev p : Progress
  p = progress c line state spare

  -- the line ends
  pub line-ends : (t : Turn) (state' spare' out' : List ℕ) → byte ≡ newline → length out' ≡ reply_room
      → Replied (reply_to (take c.filled line) (in_use c.held state spare)) state spare out t state' spare' out'
      → Stepped byte p state spare out (record { held = t.held; filled = 0; laid = t.laid }) line state' spare' out'
  line-ends t state' spare' out' e long r =
      record {
        going = record { ready = r.ready; buffer = g.buffer; come = omega arith; room = long };
        leaves = rw r.leaves (sym (newline-took byte p e));
        prints = rw (newline-prints byte p e) r.prints;
        beyond = r.beyond;
      }

  -- a byte that leaves the memory as it is, where no output waits
  stays : (n : ℕ) (line' : List ℕ) → c.laid ≡ 0 → (byte ≡ newline → ⊥) → n ≤ line_room → length line' ≡ line_room → take n line' ≡ longer (take c.filled line) byte
      → Stepped byte p state spare out (record { held = c.held; filled = n; laid = c.laid }) line' state spare out
  stays n line' z e h long k =
      record {
        going = record { ready = g.ready; buffer = long; come = h; room = g.room };
        leaves = rw k (sym (other_took byte p e));
        prints = rw (other_prints byte p e, z) (laid_nothing out 0 (omega arith));
        beyond = record { bytes = refl; entries = refl };
      }

  -- a byte of the line
  pub byte_comes : c.laid ≡ 0 → (byte ≡ newline → ⊥) → c.filled < line_room
      → Stepped byte p state spare out (record { held = c.held; filled = c.filled + 1; laid = c.laid }) (set line c.filled byte) state spare out
  byte_comes z e h =
      let long : length (take c.filled line) ≡ c.filled = length-take-le c.filled line (omega (arith, g.buffer)) in
      stays (c.filled + 1) (set line c.filled byte) z e (omega arith) (length-set line c.filled byte ∙ g.buffer)
      (rw (add-one c.filled) (take-suc-set line c.filled byte (omega (arith, g.buffer))) ∙ sym (room-longer (take c.filled line) byte (omega arith)))

  -- a byte of a line that is too long
  pub line-full : c.laid ≡ 0 → (byte ≡ newline → ⊥) → line_room ≤ c.filled
      → Stepped byte p state spare out (record { held = c.held; filled = c.filled; laid = c.laid }) line state spare out
  line-full z e h =
      let long : length (take c.filled line) ≡ c.filled = length-take-le c.filled line (omega (arith, g.buffer, g.come)) in
      stays c.filled line z e g.come g.buffer (sym (full-longer (take c.filled line) byte (omega arith)))

module _ (c : Cursor) (line state spare out : List ℕ) (g : Going c line state spare out) where
  -- the end of the input, where no line is left
  pub no_line : c.laid ≡ 0 → c.filled ≡ 0 → Replied (ending (progress c line state spare)) state spare out (record { held = c.held; laid = c.laid }) state spare out
  unfolding ending is_empty
  no_line z e = rw (e, z) (replied_same c.held state spare out _ 0 out g.ready refl (laid_nothing out 0 (omega arith)))

  -- and where one is
  pub last_line : (t : Turn) (state' spare' out' : List ℕ) → (c.filled ≡ 0 → ⊥)
      → Replied (reply_to (take c.filled line) (in_use c.held state spare)) state spare out t state' spare' out' → Replied (ending (progress c line state spare)) state spare out t state' spare' out'
  unfolding ending is_empty
  last_line t state' spare' out' n r = replied_as (sym (filled (take c.filled line) (omega (arith, length-take-le c.filled line (omega (arith, g.buffer, g.come)))))) r
    where
      filled : (l : List ℕ) → 1 ≤ length l → ending (record { session = in_use c.held state spare; come = l }) ≡ reply_to l (in_use c.held state spare)
      filled [] h = absurd (omega arith)
      filled (x ∷ l) h = refl

-- the output is handed over
pub going_on : {line state spare out : List ℕ} (c : Cursor) (n : ℕ) → Going c line state spare out → Going (record { held = c.held; filled = c.filled; laid = n }) line state spare out
going_on c n g = record { ready = g.ready; buffer = g.buffer; come = g.come; room = g.room }

-- nothing is in use at first
abbrev pub first : Cursor
first = record { held = record { state = 0; spare = 0; blocks = 0; pages = 0 }; filled = 0; laid = 0 }

pub going_first : (line state spare out : List ℕ) → length line ≡ line_room → length state ≡ state_room → length spare ≡ spare_room → length out ≡ reply_room → Going first line state spare out
unfolding read_state numbers_at le16 le32
going_first line state spare out a b d e =
    record {
      ready = record {
        bytes = b;
        entries = d;
        state_used = omega arith;
        spare_used = omega arith;
        blocks_used = omega arith;
        pages_used = omega arith;
        blocks_read = refl;
        pages_read = refl;
      };
      buffer = a;
      come = omega arith;
      room = e;
    }
