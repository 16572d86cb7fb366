-- Document 02, g: what is promised of telling why, on states of any content. "Each reason holds in the state, there are as many entries
-- as lookup looks at levels, and the last says member exactly where lookup doesn't say 'not written'." Assumes nothing.
use Rattle.std.specs.Prelude.{◌≡◌, List, [], ◌∷◌, ◌⊎◌, true, false, not, ℕ, ◌-◌, ◌%◌, pos, length}
use Rattle.std.proofs.Math.Option.{Option, none, some}
use Rattle.model.specs.Lists.{all, elem, store}
use Rattle.model.specs.Device.{group_of, offset_of, spare_length}
use Rattle.model.specs.Record.{Record, accurate, approximate, kind, covers, member, predict}
use Rattle.model.specs.Levels.{Level, Group, listing, levels_to}
use Rattle.model.specs.Marks.{is_marked}
use Rattle.model.specs.State.{State, group_at}
use Rattle.calls.specs.Refusals.{not_named}
use Rattle.calls.specs.Outcome.{Answer, found, not_written, explained, refused, accepted, Outcome}
use Rattle.calls.specs.Why.{Reason, uncovered, off_stride, not_owned, is_member, reasons_bytes}
use Rattle.calls.specs.History.{lookup_call, why_call, run}

-- r is one of these records
abbrev pub OneOf : Record → List Record → Type 0
OneOf r [] = ⊥
OneOf r (s ∷ l) = (r ≡ s) ⊎ OneOf r l

-- Who owns the offset among these records: nobody; or a record that starts there, which is approximate and has it, and every record that
-- owns it is that one.
pub data Owner (o : ℕ) (l : List Record) : Option ℕ → Type 0 where
  nobody : all (λ r. not (elem o r.owned)) l ≡ true → Owner o l none
  owner : (r : Record) → OneOf r l → (a : ℕ) → kind r ≡ approximate a → elem o r.owned ≡ true
      → ((q : Record) → OneOf q l → elem o q.owned ≡ true → q ≡ r) → Owner o l (some r.start)

-- A reason holds at offset o in a level of a group with these records: no record of the level covers it; or one does, which is accurate
-- and the offset is off its stride, or approximate and doesn't own it (with who does), or which has it as a member.
pub data Holds (o : ℕ) (l : List Record) (level : Level) : Reason → Type 0 where
  none_covers : all (λ r. not (covers r o)) level ≡ true → Holds o l level uncovered
  strides_over : (r : Record) → OneOf r level → covers r o ≡ true → (d : ℕ) → kind r ≡ accurate d → ((o - r.start) % d ≡ 0 → ⊥)
      → Holds o l level (off_stride r)
  does_not_own : (r : Record) → OneOf r level → covers r o ≡ true → (a : ℕ) → kind r ≡ approximate a → elem o r.owned ≡ false
      → (w : Option ℕ) → Owner o l w → Holds o l level (not_owned r w)
  has_it : (r : Record) → OneOf r level → covers r o ≡ true → member r o ≡ true → Holds o l level (is_member r)

-- entry after entry, each of its level, from the top
abbrev pub EachHolds : ℕ → List Record → Group → List Reason → Type 0
EachHolds o l g [] = Unit {0}
EachHolds o l [] (x ∷ xs) = ⊥
EachHolds o l (level ∷ g) (x ∷ xs) = Holds o l level x × EachHolds o l g xs

-- the record that a reason says is the member's
unfoldable pub member_in : Reason → Option Record
member_in uncovered = none
member_in (off_stride r) = none
member_in (not_owned r w) = none
member_in (is_member r) = some r

-- "the last says member", of this record; none, where it says something else or there is no entry
unfoldable pub last_member : List Reason → Option Record
last_member [] = none
last_member (x ∷ l) = elim l [ [] ↦ member_in x | y ∷ m ↦ last_member l ]

-- how many levels a lookup looks at, also where it then refuses 7: down to the one that has the offset, or all; 0 of a discarded page
unfoldable pub levels_looked : State → ℕ → ℕ
levels_looked s x = elim (is_marked s.marks x) [ true ↦ 0 | false ↦ levels_to (offset_of x) (group_at s (group_of x)) ]

-- What a lookup of the page at offset o answers beside these entries: as many levels as entries, and 'not written' exactly where the last
-- doesn't say member. Where it does, the predicted page is that record's: this record is the one that the lookup went by.
pub data Beside (o : ℕ) (l : List Reason) : Answer → Type 0 where
  a_found : (r : Record) (page predicted : ℕ) → last_member l ≡ some r → predict r o ≡ pos predicted → Beside o l (found page predicted (length l))
  a_miss : last_member l ≡ none → Beside o l (not_written (length l))
  an_unnamed : (r : Record) → last_member l ≡ some r → Beside o l (refused not_named)

-- What an accepted telling of page x comes to.
pub record Explanation (s : State) (x : ℕ) (out : List ℕ) (o : Outcome) : Type 0 where
  pub entries : List Reason
  pub answered : o.answer ≡ explained (length entries)
  pub written : o.after.out ≡ store out 0 (reasons_bytes entries)
  pub hold : EachHolds (offset_of x) (listing (group_at s (group_of x))) (group_at s (group_of x)) entries
  pub levels : length entries ≡ levels_looked s x
  pub looked : (spare : List ℕ) → length spare ≡ spare_length s.device → Beside (offset_of x) entries (run (lookup_call x) s spare).answer

abbrev pub WhyExplains : Type 0
WhyExplains = (s : State) (spare : List ℕ) (x : ℕ) (out : List ℕ) → accepted (run (why_call x out) s spare).answer ≡ true
    → Explanation s x out (run (why_call x out) s spare)
