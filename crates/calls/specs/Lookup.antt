-- Document 01, 'Operations': lookup; document 02, a: of a discarded logical page. Assumes nothing.
use Rattle.std.specs.Prelude.{List, [], ◌∷◌, ◌++◌, true, false, not, ℕ, ltb, leb, eqb, ℤ, pos, negsuc}
use Rattle.std.proofs.Math.Option.{Option, none, some}
use Rattle.model.specs.Device.{Device, pages, group_of, offset_of}
use Rattle.model.specs.Record.{Record, predict}
use Rattle.model.specs.Spare.{page_named}
use Rattle.model.specs.Levels.{Group, listing, holder, levels_to}
use Rattle.model.specs.Marks.{is_marked}
use Rattle.model.specs.State.{State, group_at}
use Rattle.model.specs.Sound.{sound_group}
use Rattle.calls.specs.Refusals.{Check, ◌when◌, not_sound, out_of_range, not_named, opening_with}
use Rattle.calls.specs.Outcome.{Lent, Answer, found, not_written, refused, Outcome}

-- What comes of a lookup in a sound group: the page, the predicted page and the levels looked at; nowhere, with the number of
-- levels; or unnamed: "the predicted page doesn't exist or no entry names the logical page".
pub data Looked : Type 0 where
  at : (page predicted levels : ℕ) → Looked
  nowhere : (levels : ℕ) → Looked
  unnamed : Looked

-- where page p is predicted and the spare area names this page, if any
unfoldable pub looked_named : ℕ → ℕ → Option ℕ → Looked
looked_named n p none = unnamed
looked_named n p (some q) = at q p n

-- where a record predicts this page for x, after n levels
unfoldable pub looked_at : Device → List ℕ → ℕ → ℕ → ℤ → Looked
looked_at d spare x n (pos p) = elim (ltb p (pages d)) [ true ↦ looked_named n p (page_named d spare p x) | false ↦ unnamed ]
looked_at d spare x n (negsuc m) = unnamed

unfoldable pub looked_by : Device → List ℕ → ℕ → ℕ → Option Record → Looked
looked_by d spare x n none = nowhere n
looked_by d spare x n (some r) = looked_at d spare x n (predict r (offset_of x))

-- "Lookup goes down the levels to the first record having the offset as a member."
unfoldable pub descend : State → List ℕ → ℕ → Looked
descend s spare x =
    let g : Group = group_at s (group_of x) in
    looked_by s.device spare x (levels_to (offset_of x) g) (holder (offset_of x) (listing g))

-- of a discarded page "lookup then says 'not written' with 0 levels looked at": its records, which stay, are not looked at
unfoldable pub seek : State → List ℕ → ℕ → Looked
seek s spare x = elim (is_marked s.marks x) [ true ↦ nowhere 0 | false ↦ descend s spare x ]

unfoldable pub answer_of : Looked → Answer
answer_of (at p q n) = found p q n
answer_of (nowhere n) = not_written n
answer_of unnamed = refused not_named

-- "After 1 and 2: 4; 3, its group not sound; 7": the last is the answer's own
unfoldable pub lookup_checks : ℕ → Lent → List Check
lookup_checks x lent =
    let s : State = lent.state in
    opening_with s lent.spare
    ++ (out_of_range when leb s.device.N x
    ∷ not_sound when not (sound_group s.device.N (group_of x) (group_at s (group_of x)))
    ∷ [])

-- "It answers the page, the predicted page and how many levels were looked at, or 'not written'": it writes nothing
unfoldable pub lookup_done : ℕ → Lent → Outcome
lookup_done x lent = record { answer = answer_of (seek lent.state lent.spare x); after = lent }

-- "one read or two. Reads are counted from these values: the predicted page, and the answered one if it is another"
unfoldable pub reads : (page predicted : ℕ) → ℕ
reads p q = elim (eqb p q) [ true ↦ 1 | false ↦ 2 ]
