-- Document 01, 'Cases', the paragraph 'The listing program reads such a script': from the bytes of its input to the bytes of its output.
-- Assumes nothing.
use Rattle.std.specs.Prelude.{List, [], ◌∷◌, ◌++◌, Bool, true, false, ◌&&◌, cond, ℕ, suc, leb, eqb, get_or, replicate}
use Rattle.model.specs.Device.{Device, within_limits, spare_length}
use Rattle.model.specs.Spare.{nobody}
use Rattle.model.specs.Levels.{Level, Group}
use Rattle.model.specs.State.{State, group_at}
use Rattle.record.specs.Read.{bare}
use Rattle.calls.specs.Outcome.{number, Outcome}
use Rattle.calls.specs.Format.{blank_state}
use Rattle.calls.specs.History.{Call, flush_call, lookup_call, collect_call, compact_call, run}
use Rattle.state.specs.Reading.{read_state}
use Rattle.lines.specs.Script.{ScriptLine, call, bad, line_of}
use Rattle.lines.specs.Printed.{head_line, line_for, refused_line, bad_line}
use Rattle.listing.specs.Sizes.{page_room, spare_room}

-- The device between two lines: the state and the spare area, as the calls see them.
pub record Session : Type 0 where
  pub state : State
  pub spare : List ℕ

-- "The state is an empty slice until a format is accepted."
unfoldable pub unformatted : Session
unformatted = record { state = read_state []; spare = [] }

-- What a line comes to: what it prints, and the session that it leaves.
pub record Reply : Type 0 where
  pub printed : List ℕ
  pub left : Session

-- "It takes devices with N up to 1,024 and 8,192 spare entries"
unfoldable pub takes_device : Device → Bool
takes_device d = within_limits d && (leb d.N page_room && leb (spare_length d) spare_room)

-- what an accepted format leaves: "frees all blocks, empties all groups and fills every spare entry with 4,294,967,295"
unfoldable pub new_device : Device → Session
new_device d = record { state = blank_state d; spare = replicate (spare_length d) nobody }

-- 1: "It takes devices .., else "refused 1"."
unfoldable pub format_reply : Device → Session → Reply
format_reply d s =
    elim (takes_device d) [
      | true ↦ record { printed = []; left = new_device d }
      | false ↦ record { printed = refused_line 1; left = s }
    ]

-- "Accepted calls but 6 print nothing", "A refusal prints "refused" and its number": by the answer's number, 0 where it is accepted
unfoldable pub refusal_print : ℕ → List ℕ
refusal_print n = elim (eqb n 0) [ true ↦ [] | false ↦ refused_line n ]

-- 2 to 5: a call on the session
unfoldable pub call_reply : Call → Session → Reply
call_reply c s =
    let o : Outcome = run c s.state s.spare in
    record { printed = refusal_print (number o.answer); left = record { state = o.after.state; spare = o.after.spare } }

-- "(.. 2 flush, 3 lookup, 4 collection, 5 compaction ..)", "flush its pages; collection nothing; the others one number": the call with its
-- numbers, and with lists of the lengths that it wants
unfoldable pub call_of : ℕ → List ℕ → Session → Call
call_of op ns s =
    cond (eqb op 2) (flush_call ns (replicate s.state.device.B 0))
    (cond (eqb op 3) (lookup_call (get_or ns 0 0))
    (cond (eqb op 4) (collect_call (replicate s.state.device.B 0) (replicate s.state.device.M 0))
    (compact_call (get_or ns 0 0))))

-- "levels downward, each ascending": the lines of level n, and of the levels from n on
unfoldable pub level_lines : ℕ → Level → List ℕ
level_lines n [] = []
level_lines n (r ∷ l) = line_for n (bare r) ++ level_lines n l

unfoldable pub group_lines : ℕ → Group → List ℕ
group_lines n [] = []
group_lines n (l ∷ g) = level_lines n l ++ group_lines (suc n) g

-- 6 "prints the head line, then levels downward", or the refusal of that number
unfoldable pub list_print : ℕ → Group → List ℕ
list_print n g = elim (eqb n 0) [ true ↦ head_line ++ group_lines 0 g | false ↦ refused_line n ]

-- "6 takes a group, refuses as compaction"
unfoldable pub list_reply : ℕ → Session → Reply
list_reply k s = record { printed = list_print (number (run (compact_call k) s.state s.spare).answer) (group_at s.state k); left = s }

-- "Format has M, B, N, g"
abbrev pub device_of : List ℕ → Device
device_of ns = record { M = get_or ns 0 0; B = get_or ns 1 0; N = get_or ns 2 0; g = get_or ns 3 0 }

-- "(1 format, 2 flush, 3 lookup, 4 collection, 5 compaction, 6 list)"
unfoldable pub operation_reply : ℕ → List ℕ → Session → Reply
operation_reply op ns s =
    cond (eqb op 1) (format_reply (device_of ns) s)
    (cond (eqb op 6) (list_reply (get_or ns 0 0) s)
    (call_reply (call_of op ns s) s))

-- "Other lines print "bad line"."
unfoldable pub reply : ScriptLine → Session → Reply
reply (call op ns) s = operation_reply op ns s
reply bad s = record { printed = bad_line; left = s }

-- what a line of these bytes comes to
abbrev pub reply_to : List ℕ → Session → Reply
reply_to line s = reply (line_of line) s

-- the newline's code
abbrev pub newline : ℕ
newline = 10

-- a byte in front of the first line; where there is none, a line of its own, without its newline
unfoldable pub in_front : ℕ → List (List ℕ) → List (List ℕ)
in_front c [] = (c ∷ []) ∷ []
in_front c (l ∷ ls) = (c ∷ l) ∷ ls

-- the input's lines: a newline ends a line, the last one may lack it, and no line stands behind the last newline
unfoldable pub lines_of : List ℕ → List (List ℕ)
lines_of [] = []
lines_of (c ∷ cs) = elim (eqb c newline) [ true ↦ [] ∷ lines_of cs | false ↦ in_front c (lines_of cs) ]

-- what lines print, one after the other, and the session that they leave
unfoldable pub printed_by : List (List ℕ) → Session → List ℕ
printed_by [] s = []
printed_by (l ∷ ls) s = (reply_to l s).printed ++ printed_by ls (reply_to l s).left

unfoldable pub left_by : List (List ℕ) → Session → Session
left_by [] s = s
left_by (l ∷ ls) s = left_by ls (reply_to l s).left

-- the listing program: its output for an input, and the session that it ends with
unfoldable pub transcript : List ℕ → List ℕ
transcript input = printed_by (lines_of input) unformatted

unfoldable pub session_after : List ℕ → Session
session_after input = left_by (lines_of input) unformatted
