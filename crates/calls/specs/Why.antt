-- Document 02, g: telling why this record. "A new call for support staff returns, for each level from the top, the record covering the
-- offset if there is one, and one reason". Assumes nothing.
use mathlib.Core.List.{List, [], ◌∷◌, ◌++◌, map, flatten}
use Rattle.std.proofs.Math.Option.{Option, none, some}
use Rattle.std.specs.Prelude.{Bool, true, false, not, ℕ, ◌*◌, leb, length}
use Rattle.model.specs.Lists.{elem, store, or_else}
use Rattle.model.specs.Device.{group_of, offset_of}
use Rattle.model.specs.Record.{Record, Kind, single, accurate, approximate, kind, covers, member}
use Rattle.model.specs.Levels.{Level, Group, listing, group_limit}
use Rattle.model.specs.Marks.{is_marked}
use Rattle.model.specs.State.{State, group_at}
use Rattle.model.specs.Sound.{sound_group}
use Rattle.calls.specs.Refusals.{Check, ◌when◌, bad_length, out_of_range, not_sound, wrong_length, opening}
use Rattle.calls.specs.Outcome.{Lent, with_out, explained, Outcome}
use Rattle.calls.specs.Listing.{record_bytes}

-- "no record covers it, off the stride, not owned by it (with the owner's start, if any), or member"
pub data Reason : Type 0 where
  uncovered : Reason
  off_stride : Record → Reason
  not_owned : Record → Option ℕ → Reason
  is_member : Record → Reason

-- "the record covering the offset if there is one": of a level, in which ranges don't meet
unfoldable pub covering_in : ℕ → Level → Option Record
covering_in o [] = none
covering_in o (r ∷ l) = or_else (covers r o) r (covering_in o l)

-- "the owner's start, if any": among the group's records
unfoldable pub owner_start : ℕ → List Record → Option ℕ
owner_start o [] = none
owner_start o (r ∷ l) = or_else (elem o r.owned) r.start (owner_start o l)

-- why a record of this kind that covers the offset doesn't have it, where w is the owner's start; a single that is sound has what it covers
unfoldable pub reason_as : Kind → Option ℕ → Record → Reason
reason_as single w r = off_stride r
reason_as (accurate d) w r = off_stride r
reason_as (approximate a) w r = not_owned r w

-- of a record that covers the offset
unfoldable pub reason_of : ℕ → Option ℕ → Record → Reason
reason_of o w r = elim (member r o) [ true ↦ is_member r | false ↦ reason_as (kind r) w r ]

unfoldable pub reason_by : ℕ → Option ℕ → Option Record → Reason
reason_by o w none = uncovered
reason_by o w (some r) = reason_of o w r

-- of a level
abbrev pub reason_in : ℕ → Option ℕ → Level → Reason
reason_in o w l = reason_by o w (covering_in o l)

unfoldable pub says_member : Reason → Bool
says_member uncovered = false
says_member (off_stride r) = false
says_member (not_owned r w) = false
says_member (is_member r) = true

-- a level's reason before those of the levels below: it "stops at the member"
unfoldable pub up_to : Reason → List Reason → List Reason
up_to x later = x ∷ elim (says_member x) [ true ↦ [] | false ↦ later ]

-- "for each level from the top"
unfoldable pub reasons_from : ℕ → Option ℕ → Group → List Reason
reasons_from o w [] = []
reasons_from o w (l ∷ g) = up_to (reason_in o w l) (reasons_from o w g)

abbrev pub reasons_in : ℕ → Group → List Reason
reasons_in o g = reasons_from o (owner_start o (listing g)) g

-- "a discarded page lists nothing"
unfoldable pub reasons : State → ℕ → List Reason
reasons s x = elim (is_marked s.marks x) [ true ↦ [] | false ↦ reasons_in (offset_of x) (group_at s (group_of x)) ]

-- "1 if an owner is given, its start, 0 (zeros without owner)"
unfoldable pub owner_bytes : Option ℕ → List ℕ
owner_bytes none = 0 ∷ 0 ∷ 0 ∷ []
owner_bytes (some start) = 1 ∷ start ∷ 0 ∷ []

-- "12 bytes each: record (or zeros), reason 0 to 3 as named", and the owner
unfoldable pub reason_bytes : Reason → List ℕ
reason_bytes uncovered = 0 ∷ 0 ∷ 0 ∷ 0 ∷ 0 ∷ 0 ∷ 0 ∷ 0 ∷ 0 ∷ owner_bytes none
reason_bytes (off_stride r) = record_bytes r ++ (1 ∷ owner_bytes none)
reason_bytes (not_owned r w) = record_bytes r ++ (2 ∷ owner_bytes w)
reason_bytes (is_member r) = record_bytes r ++ (3 ∷ owner_bytes none)

-- one after the other
abbrev pub reasons_bytes : List Reason → List ℕ
reasons_bytes l = flatten (map reason_bytes l)

-- "a lent buffer of 512 entries"
abbrev pub why_length : ℕ
why_length = 12 * group_limit

-- "It uses lookup's refusals except 7": 1, 2, 4, 3; it is lent no spare area
unfoldable pub why_checks : ℕ → Lent → List Check
why_checks x lent =
    let s : State = lent.state in
    opening s
    ++ (bad_length when wrong_length lent.out why_length
    ∷ out_of_range when leb s.device.N x
    ∷ not_sound when not (sound_group s.device.N (group_of x) (group_at s (group_of x)))
    ∷ [])

-- "It answers how many it listed", "stops at the member and leaves later entries"
unfoldable pub why_done : ℕ → Lent → Outcome
why_done x lent =
    let l : List Reason = reasons lent.state x in
    record { answer = explained (length l); after = with_out (store lent.out 0 (reasons_bytes l)) lent }
