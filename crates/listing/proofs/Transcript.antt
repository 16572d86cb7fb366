-- Feeding the input byte by byte prints the transcript and leaves the session that the definition states. What has come of a line is the
-- line's front, and a line that is longer than the buffer is bad, as its front is. Assumes nothing.
use mathlib.Core.Path.{◌≡◌, refl, sym, ap, ◌∙◌}
use mathlib.Core.List.{List, [], ◌∷◌, ◌++◌, append_assoc, append-nil}
use mathlib.Core.Bool.{Bool, true, false}
use Prim.Native.Nat.{ℕ, ◌+◌, ◌≤◌, ◌<◌}
use native.Mathlib.Omega.{arith}
use native.Mathlib.Numerals.{add-one}
use borrow.Author.Tests.{eqb-true, eqb-false, ne_eqb, lt-ltb, le-ltb, ltb-true, ltb-false}
use lib.Dec.{ltb, eqb}
use lib.ListN.{length, get_or, take, length-append}
use lib.Seq.{take-suc, take_all, take-append-le, length-take-le}
use Rattle.model.specs.Sound.{is_empty}
use Rattle.lines.specs.Script.{ScriptLine, line_of}
use Rattle.lines.proofs.Lines.{long-bad}
use Rattle.listing.specs.Sizes.{line_room}
use Rattle.listing.specs.Session.{Session, unformatted, Reply, reply, reply_to, newline, in_front, lines_of, printed_by, left_by, transcript, session_after}
use Rattle.listing.specs.Progress.{Progress, start, longer, took, took_prints, fed, fed_prints, ending, progress}
use Rattle.listing.proofs.Each.{Each, none, more, each_last}
use Rattle.listing.proofs.Bytes.{first, newline-took, newline-prints, other_took, other_prints}

-- a byte that is no newline
abbrev Plain : ℕ → Type 0
Plain c = c ≡ newline → ⊥

-- a newline ends the line before it
line-cut : (l rest : List ℕ) → Each Plain l → lines_of (l ++ (newline ∷ rest)) ≡ l ∷ lines_of rest
unfolding lines_of in_front
line-cut [] rest none = refl
line-cut (c ∷ l) rest (more h hs) = rw (ne_eqb c newline h, lines_of) (ap (in_front c) (line-cut l rest hs))

-- the last line may lack it
last_cut : (c : ℕ) (l : List ℕ) → Each Plain (c ∷ l) → lines_of (c ∷ l) ≡ (c ∷ l) ∷ []
unfolding lines_of in_front
last_cut c [] (more h hs) = rw (ne_eqb c newline h, lines_of)
last_cut c (d ∷ l) (more h hs) = rw (ne_eqb c newline h, lines_of) (ap (in_front c) (last_cut d l hs))

-- as much of a line as the buffer holds is the same call, or as bad
front-line : (l : List ℕ) → line_of (take line_room l) ≡ line_of l
front-line l = go (ltb line_room (length l)) refl
  where
    go : (t : Bool) → ltb line_room (length l) ≡ t → line_of (take line_room l) ≡ line_of l
    go true e =
        let h : line_room < length l = ltb-true line_room (length l) e in
        long-bad (take line_room l) (omega (arith, length-take-le line_room l (omega arith))) ∙ sym (long-bad l (omega arith))
    go false e = ap line_of (take_all line_room l (ltb-false line_room (length l) e))

-- one more byte of a line, in the buffer
front-longer : (l : List ℕ) (c : ℕ) → longer (take line_room l) c ≡ take line_room (l ++ (c ∷ []))
unfolding longer
front-longer l c = go (ltb (length l) line_room) refl
  where
    go : (t : Bool) → ltb (length l) line_room ≡ t → longer (take line_room l) c ≡ take line_room (l ++ (c ∷ []))
    go true e =
        let h : length l < line_room = ltb-true (length l) line_room e in
        let same : take line_room l ≡ l = take_all line_room l (omega arith) in
        let k : length (take line_room l) < line_room = omega (arith, ap length same) in
        rw (lt-ltb (length (take line_room l)) line_room k, longer)
        (ap (λ (x : List ℕ). x ++ (c ∷ [])) same ∙ sym (take_all line_room (l ++ (c ∷ [])) (omega (arith, length-append l (c ∷ [])))))
    go false e =
        let h : line_room ≤ length l = ltb-false (length l) line_room e in
        let k : line_room ≤ length (take line_room l) = omega (arith, length-take-le line_room l h) in
        rw (le-ltb (length (take line_room l)) line_room k, longer) (sym (take-append-le line_room l (c ∷ []) h))

-- what bytes and the end behind them print, and the session that they leave
abbrev finished : List ℕ → Progress → Reply
finished cs p = record { printed = fed_prints cs p ++ (ending (fed cs p)).printed; left = (ending (fed cs p)).left }

-- what lines print, and the session that they leave
abbrev answered : List (List ℕ) → Session → Reply
answered ls s = record { printed = printed_by ls s; left = left_by ls s }

-- the input ends inside a line
end_line : (full : List ℕ) (s : Session) → Each Plain full → finished [] (record { session = s; come = take line_room full }) ≡ answered (lines_of full) s
unfolding fed fed_prints ending is_empty lines_of printed_by left_by
end_line [] s none = refl
end_line (c ∷ l) s f =
    ap (λ (m : ScriptLine). reply m s) (front-line (c ∷ l))
    ∙ ap (λ (t : List ℕ). record { printed = t; left = (reply_to (c ∷ l) s).left }) (sym (append-nil (reply_to (c ∷ l) s).printed))
    ∙ sym (ap (λ (ls : List (List ℕ)). answered ls s) (last_cut c l f))

-- one more byte in front
byte_first : (c : ℕ) (cs : List ℕ) (p q : Progress) (t : List ℕ) → took c p ≡ q → took_prints c p ≡ t
    → finished (c ∷ cs) p ≡ record { printed = t ++ (finished cs q).printed; left = (finished cs q).left }
unfolding fed fed_prints
byte_first c cs p q t e f =
    rw (e, f) (ap (λ (x : List ℕ). record { printed = x; left = (ending (fed cs q)).left }) (append_assoc t (fed_prints cs q) (ending (fed cs q)).printed))

-- the input goes on: full is what has come of a line
fed_lines : (cs full : List ℕ) (s : Session) → Each Plain full → finished cs (record { session = s; come = take line_room full }) ≡ answered (lines_of (full ++ cs)) s
unfolding printed_by left_by
fed_lines [] full s f = end_line full s f ∙ sym (ap (λ (l : List ℕ). answered (lines_of l) s) (append-nil full))
fed_lines (c ∷ cs) full s f =
    go (eqb c newline) refl (λ s'. fed_lines cs [] s' none) (λ k. fed_lines cs (full ++ (c ∷ [])) s (each_last f k))
  where
    go : (t : Bool) → eqb c newline ≡ t
        → ((s' : Session) → finished cs (record { session = s'; come = [] }) ≡ answered (lines_of cs) s')
        → (Plain c → finished cs (record { session = s; come = take line_room (full ++ (c ∷ [])) }) ≡ answered (lines_of (full ++ (c ∷ []) ++ cs)) s)
        → finished (c ∷ cs) (record { session = s; come = take line_room full }) ≡ answered (lines_of (full ++ (c ∷ cs))) s
    go true e next on =
        let k : c ≡ newline = eqb-true c newline e in
        let r : Reply = reply_to (take line_room full) s in
        byte_first c cs _ _ _ (newline-took c _ k) (newline-prints c _ k)
        ∙ ap (λ (x : Reply). record { printed = r.printed ++ x.printed; left = x.left }) (next r.left)
        ∙ ap (λ (m : ScriptLine). record { printed = (reply m s).printed ++ printed_by (lines_of cs) (reply m s).left; left = left_by (lines_of cs) (reply m s).left }) (front-line full)
        ∙ sym (ap (λ (ls : List (List ℕ)). answered ls s) (ap (λ (n : ℕ). lines_of (full ++ (n ∷ cs))) k ∙ line-cut full cs f))
    go false e next on =
        let k : Plain c = eqb-false c newline e in
        byte_first c cs _ _ _ (other_took c _ k) (other_prints c _ k)
        ∙ ap (λ (l : List ℕ). finished cs (record { session = s; come = l })) (front-longer full c)
        ∙ on k
        ∙ ap (λ (l : List ℕ). answered (lines_of l) s) (append_assoc full (c ∷ []) cs)

-- bytes behind others
pub fed_then : (cs ds : List ℕ) (p : Progress) → fed (cs ++ ds) p ≡ fed ds (fed cs p)
unfolding fed
fed_then [] ds p = refl
fed_then (c ∷ cs) ds p = fed_then cs ds (took c p)

pub prints_then : (cs ds : List ℕ) (p : Progress) → fed_prints (cs ++ ds) p ≡ fed_prints cs p ++ fed_prints ds (fed cs p)
unfolding fed fed_prints
prints_then [] ds p = refl
prints_then (c ∷ cs) ds p =
    ap (λ (l : List ℕ). took_prints c p ++ l) (prints_then cs ds (took c p))
    ∙ sym (append_assoc (took_prints c p) (fed_prints cs (took c p)) (fed_prints ds (fed cs (took c p))))

-- one byte more
pub fed_next : (bytes : List ℕ) (i : ℕ) (p : Progress) → i < length bytes → fed (take (i + 1) bytes) p ≡ took (get_or bytes i 0) (fed (take i bytes) p)
unfolding fed
fed_next bytes i p h = rw (add-one i, take-suc bytes i 0 h) (fed_then (take i bytes) (get_or bytes i 0 ∷ []) p)

pub prints_next : (bytes : List ℕ) (i : ℕ) (p : Progress) → i < length bytes
    → fed_prints (take (i + 1) bytes) p ≡ fed_prints (take i bytes) p ++ took_prints (get_or bytes i 0) (fed (take i bytes) p)
unfolding fed_prints
prints_next bytes i p h =
    rw (add-one i, take-suc bytes i 0 h)
    (prints_then (take i bytes) (get_or bytes i 0 ∷ []) p
    ∙ ap (λ (l : List ℕ). fed_prints (take i bytes) p ++ l) (append-nil (took_prints (get_or bytes i 0) (fed (take i bytes) p))))

-- the whole input, from its start
whole : (input : List ℕ) → finished input start ≡ record { printed = transcript input; left = session_after input }
unfolding start transcript session_after
whole input = fed_lines input [] unformatted none

-- The law: after any prefix of the input, what was printed and what is to come make the transcript.
pub transcribed : (input rest : List ℕ) → fed_prints input start ++ (fed_prints rest (fed input start) ++ (ending (fed rest (fed input start))).printed) ≡ transcript (input ++ rest)
transcribed input rest =
    sym (append_assoc (fed_prints input start) (fed_prints rest (fed input start)) (ending (fed rest (fed input start))).printed)
    ∙ ap (λ (l : List ℕ). l ++ (ending (fed rest (fed input start))).printed) (sym (prints_then input rest start))
    ∙ ap (λ (p : Progress). fed_prints (input ++ rest) start ++ (ending p).printed) (sym (fed_then input rest start))
    ∙ ap (λ (r : Reply). r.printed) (whole (input ++ rest))

-- and the end leaves the session that the input states
left_behind : (input : List ℕ) → (ending (fed input start)).left ≡ session_after input
left_behind input = ap (λ (r : Reply). r.left) (whole input)

-- Bytes have come since the start, and led here.
pub record Came (p : Progress) : Type 0 where
  pub script : List ℕ
  pub here : p ≡ fed script start

-- none at first
unfoldable pub came_first : (line state spare : List ℕ) → Came (progress first line state spare)
unfolding fed start unformatted
came_first line state spare = record { script = []; here = refl }

-- more
unfoldable pub came_more : {p : Progress} (q : Progress) (bytes : List ℕ) → Came p → q ≡ fed bytes p → Came q
came_more q bytes a e = record { script = a.script ++ bytes; here = e ∙ ap (fed bytes) a.here ∙ sym (fed_then a.script bytes start) }

-- and the end
pub came_all : {p : Progress} (a : Came p) → (ending p).left ≡ session_after a.script
came_all a = ap (λ (p : Progress). (ending p).left) a.here ∙ left_behind a.script

-- what was printed before the end, and at it
pub came-prints : {p : Progress} (a : Came p) → fed_prints a.script start ++ (ending p).printed ≡ transcript a.script
came-prints a = ap (λ (p : Progress). fed_prints a.script start ++ (ending p).printed) a.here ∙ ap (λ (r : Reply). r.printed) (whole a.script)

-- inside a line too some script leaves the session: what has come without that line
abbrev Leaves : List ℕ → Progress → Session → Type 0
Leaves cs p s = (ds : List ℕ) × ((fed cs p).session ≡ left_by (lines_of ds) s)

sessions : (cs full : List ℕ) (s : Session) → Each Plain full → Leaves cs (record { session = s; come = take line_room full }) s
unfolding fed lines_of left_by
sessions [] full s f = ([], refl)
sessions (c ∷ cs) full s f =
    go (eqb c newline) refl (λ s'. sessions cs [] s' none) (λ k. sessions cs (full ++ (c ∷ [])) s (each_last f k))
  where
    go : (t : Bool) → eqb c newline ≡ t
        → ((s' : Session) → Leaves cs (record { session = s'; come = [] }) s')
        → (Plain c → Leaves cs (record { session = s; come = take line_room (full ++ (c ∷ [])) }) s)
        → Leaves (c ∷ cs) (record { session = s; come = take line_room full }) s
    go true e next on =
        let k : c ≡ newline = eqb-true c newline e in
        let r : Reply = reply_to (take line_room full) s in
        let w = next r.left in (
          full ++ (newline ∷ w.0),
          ap (λ (p : Progress). (fed cs p).session) (newline-took c _ k)
              ∙ w.1
              ∙ ap (λ (m : ScriptLine). left_by (lines_of w.0) (reply m s).left) (front-line full)
              ∙ sym (ap (λ (ls : List (List ℕ)). left_by ls s) (line-cut full w.0 f)),
        )
    go false e next on =
        let k : Plain c = eqb-false c newline e in
        let w = on k in (
          w.0,
          ap (λ (p : Progress). (fed cs p).session) (other_took c _ k)
              ∙ ap (λ (l : List ℕ). (fed cs (record { session = s; come = l })).session) (front-longer full c)
              ∙ w.1,
        )

pub came-session : {p : Progress} (a : Came p) → (ds : List ℕ) × (p.session ≡ session_after ds)
unfolding start session_after
came-session a =
    let w = sessions a.script [] unformatted none in (w.0, ap (λ (p : Progress). p.session) a.here ∙ w.1)
