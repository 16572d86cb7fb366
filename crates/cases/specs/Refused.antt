-- Document 01, 'Operations, each with its refusals in order', with document 02's discard: each refusal of each call, met on the smallest
-- device, has the document's number, and where two apply it is the first; and what agreement says. Assumes nothing.
use Rattle.std.specs.Prelude.{◌≡◌, refl, List, [], ◌∷◌, map, true, false, ℕ, pos, replicate}
use Rattle.model.specs.Device.{Device}
use Rattle.model.specs.Record.{Record}
use Rattle.model.specs.Levels.{Group}
use Rattle.model.specs.State.{with_counts, with_groups}
use Rattle.calls.specs.Outcome.{Answer, agreed, number}
use Rattle.calls.specs.Demand3.{agreement_of}
use Rattle.calls.specs.History.{Call, format_call, flush_call, lookup_call, discard_call, collect_call, compact_call, list_call, why_call, run, Past, step, steps}
use Rattle.cases.specs.Small.{small, unformatted, flush_on, collect_on}
use Rattle.cases.specs.Opens.{everything}

-- a device after its format and these calls
formatted_then : Device → List Call → Past
formatted_then d cs = steps (format_call d ∷ cs) (unformatted d)

new : Past
new = formatted_then small []

-- The same with another length of the state and other device numbers in it; with another group, counts, spare area.
sized : ℕ → Device → Past → Past
sized n d h = record {
  state = record { bytes = n; device = d; counts = h.state.counts; marks = h.state.marks; groups = h.state.groups };
  spare = h.spare;
  book = h.book;
}

grouped : Group → Past → Past
grouped g h = record { state = with_groups (g ∷ []) h.state; spare = h.spare; book = h.book }

counted : List ℕ → Past → Past
counted cs h = record { state = with_counts cs h.state; spare = h.spare; book = h.book }

spared : List ℕ → Past → Past
spared l h = record { state = h.state; spare = l; book = h.book }

-- a single of logical page 0 that predicts page p
single : ℕ → Record
single p = record { start = 0; span = 0; word = 0; intercept = pos p; owned = [] }

-- "1 when the state is too short to hold the device numbers or they are outside limits"; its length is 16 + 3 × 2 + 1 + 5,636 = 5,659
too_short : Past
too_short = sized 15 small new

outside : Past
outside = sized 5659 (record { M = 2; B = 4; N = 4; g = 0 }) new

-- "2 when a lent slice has a wrong length": one byte more, one spare entry more than 3 × 4
long_state : Past
long_state = sized 5660 small new

long_spare : Past
long_spare = spared (replicate 13 0) new

-- "3, state not sound": an empty level; a count above B
empty_level : Past
empty_level = grouped ([] ∷ []) new

overfull : Past
overfull = counted (5 ∷ 0 ∷ 0 ∷ []) new

-- "7, the predicted page doesn't exist or no entry names the logical page"
no_such_page : Past
no_such_page = grouped ((single 12 ∷ []) ∷ []) new

not_named_there : Past
not_named_there = grouped ((single 0 ∷ []) ∷ []) new

-- "lookup then says 'not written'": of a discarded page no record is looked at
discarded_there : Past
discarded_there = step (discard_call 0) not_named_there

-- "6, fewer than two free blocks"
full : Past
full = formatted_then small (flush_on small (0 ∷ []) ∷ flush_on small (1 ∷ []) ∷ [])

-- "6, a free block is needed and none exists"
none_free : Past
none_free = counted (1 ∷ 1 ∷ 1 ∷ []) full

-- the number by which a call is refused in a situation, 0 where it is accepted
refused_by : Call → Past → ℕ
refused_by c h = number (run c h.state h.spare).answer

-- a call where every one but format is refused 1, 1 and 2, and where one that is lent a spare area is refused 1, 1, 2 and 2
opened : Call → List ℕ
opened c = map (refused_by c) (too_short ∷ outside ∷ long_state ∷ [])

opened_with : Call → List ℕ
opened_with c = map (refused_by c) (too_short ∷ outside ∷ long_state ∷ long_spare ∷ [])

-- an agreement of this situation with a new device, and of a new device with it
first : Past → ℕ
first h = refused_by (agreement_of h new) new

second : Past → ℕ
second h = refused_by (agreement_of new h) new

-- what the definitions give, a list for each call
pub given : List (List ℕ)
given =
    -- format
    (refused_by (format_call small) (unformatted small)
    ∷ refused_by (format_call (record { M = 3; B = 4; N = 5; g = 0 })) (unformatted small)
    ∷ refused_by (format_call small) long_state
    ∷ refused_by (format_call small) long_spare
    ∷ refused_by (format_call (record { M = 3; B = 4; N = 5; g = 0 })) long_spare
    ∷ [])
    -- flush
    ∷ opened_with (flush_on small (0 ∷ []))
    ∷ (refused_by (flush_call (0 ∷ []) (replicate 5 0)) new
    ∷ refused_by (flush_on small (0 ∷ [])) empty_level
    ∷ refused_by (flush_on small (0 ∷ [])) overfull
    ∷ refused_by (flush_on small []) new
    ∷ refused_by (flush_on small (0 ∷ 0 ∷ 0 ∷ 0 ∷ 0 ∷ [])) new
    ∷ refused_by (flush_on small (0 ∷ 4 ∷ [])) new
    ∷ refused_by (flush_on small (0 ∷ [])) full
    ∷ refused_by (flush_on small (0 ∷ [])) new
    ∷ [])
    -- flush where two apply: 2 and 3, 3 and 5, 5 and 4, 4 and 6
    ∷ (refused_by (flush_call (0 ∷ []) (replicate 5 0)) empty_level
    ∷ refused_by (flush_on small []) empty_level
    ∷ refused_by (flush_on small (0 ∷ 0 ∷ 0 ∷ 0 ∷ 4 ∷ [])) new
    ∷ refused_by (flush_on small (4 ∷ [])) full
    ∷ [])
    -- lookup
    ∷ opened_with (lookup_call 0)
    ∷ (refused_by (lookup_call 4) new
    ∷ refused_by (lookup_call 0) empty_level
    ∷ refused_by (lookup_call 0) no_such_page
    ∷ refused_by (lookup_call 0) not_named_there
    ∷ refused_by (lookup_call 0) discarded_there
    ∷ refused_by (lookup_call 0) new
    ∷ [])
    -- lookup where two apply: 2 and 4, 4 and 3
    ∷ (refused_by (lookup_call 4) long_spare ∷ refused_by (lookup_call 4) empty_level ∷ [])
    -- discard
    ∷ opened_with (discard_call 0)
    ∷ (refused_by (discard_call 4) new
    ∷ refused_by (discard_call 0) empty_level
    ∷ refused_by (discard_call 0) no_such_page
    ∷ refused_by (discard_call 0) not_named_there
    ∷ refused_by (discard_call 0) discarded_there
    ∷ refused_by (discard_call 0) new
    ∷ [])
    -- discard where two apply: 2 and 4, 4 and 3
    ∷ (refused_by (discard_call 4) long_spare ∷ refused_by (discard_call 4) empty_level ∷ [])
    -- collection
    ∷ opened_with (collect_on small)
    ∷ (refused_by (collect_call (replicate 5 0) (replicate 3 0)) new
    ∷ refused_by (collect_call (replicate 4 0) (replicate 4 0)) new
    ∷ refused_by (collect_on small) empty_level
    ∷ refused_by (collect_on small) new
    ∷ refused_by (collect_on small) (formatted_then small (flush_on small (0 ∷ []) ∷ []))
    ∷ refused_by (collect_on small) none_free
    ∷ refused_by (collect_on small) full
    ∷ refused_by (collect_on small) (counted (1 ∷ 1 ∷ 1 ∷ []) new)
    ∷ [])
    -- compaction
    ∷ opened (compact_call 0)
    ∷ (refused_by (compact_call 1) new ∷ refused_by (compact_call 0) empty_level ∷ refused_by (compact_call 0) new ∷ [])
    -- listing
    ∷ opened (list_call 0 (replicate 5120 0))
    ∷ (refused_by (list_call 0 (replicate 5119 0)) new
    ∷ refused_by (list_call 1 (replicate 5120 0)) new
    ∷ refused_by (list_call 0 (replicate 5120 0)) empty_level
    ∷ refused_by (list_call 0 (replicate 5120 0)) new
    ∷ [])
    -- telling why; where two apply: 2 and 4, 4 and 3
    ∷ opened (why_call 0 (replicate 6144 0))
    ∷ (refused_by (why_call 0 (replicate 6143 0)) new
    ∷ refused_by (why_call 4 (replicate 6144 0)) new
    ∷ refused_by (why_call 0 (replicate 6144 0)) empty_level
    ∷ refused_by (why_call 0 (replicate 6144 0)) no_such_page
    ∷ refused_by (why_call 0 (replicate 6144 0)) not_named_there
    ∷ refused_by (why_call 0 (replicate 6144 0)) discarded_there
    ∷ refused_by (why_call 4 (replicate 6143 0)) new
    ∷ refused_by (why_call 4 (replicate 6144 0)) empty_level
    ∷ [])
    -- agreement
    ∷ map first (too_short ∷ outside ∷ long_state ∷ long_spare ∷ empty_level ∷ no_such_page ∷ not_named_there ∷ new ∷ [])
    ∷ map second (too_short ∷ outside ∷ long_state ∷ long_spare ∷ empty_level ∷ no_such_page ∷ not_named_there ∷ new ∷ [])
    -- agreement where two apply: the first state's 3 and the second's 1, the first state's 7 and the second's 3; 7 where N differs
    ∷ (refused_by (agreement_of empty_level outside) new
    ∷ refused_by (agreement_of not_named_there empty_level) new
    ∷ refused_by (agreement_of not_named_there (formatted_then (record { M = 3; B = 4; N = 3; g = 0 }) [])) new
    ∷ [])
    ∷ []

-- what document 01 says
pub stated : List (List ℕ)
stated =
    -- "refuses 1 when a device number is outside its limits, then 2 when state or spare area hasn't exactly the length these numbers give";
    -- "N 4 accepted, N 5 refused 1"
    (0 ∷ 1 ∷ 2 ∷ 2 ∷ 1 ∷ [])
    -- "1 when the state is too short to hold the device numbers or they are outside limits, and 2 when a lent slice has a wrong length"
    ∷ (1 ∷ 1 ∷ 2 ∷ 2 ∷ [])
    -- "After 1 and 2: 3, state not sound; 5, batch empty or longer than B; 4, a logical page is N or more; 6, fewer than two free blocks"
    ∷ (2 ∷ 3 ∷ 3 ∷ 5 ∷ 5 ∷ 4 ∷ 6 ∷ 0 ∷ [])
    ∷ (2 ∷ 3 ∷ 5 ∷ 4 ∷ [])
    ∷ (1 ∷ 1 ∷ 2 ∷ 2 ∷ [])
    -- "After 1 and 2: 4; 3, its group not sound; 7, the predicted page doesn't exist or no entry names the logical page"
    ∷ (4 ∷ 3 ∷ 7 ∷ 7 ∷ 0 ∷ 0 ∷ [])
    ∷ (2 ∷ 4 ∷ [])
    ∷ (1 ∷ 1 ∷ 2 ∷ 2 ∷ [])
    -- "It refuses 1, 2, 4 and 3 as lookup does"
    ∷ (4 ∷ 3 ∷ 0 ∷ 0 ∷ 0 ∷ 0 ∷ [])
    ∷ (2 ∷ 4 ∷ [])
    ∷ (1 ∷ 1 ∷ 2 ∷ 2 ∷ [])
    -- "After 1 and 2: 3; 8, no block is used, or one is taken with total above 0; 6, a free block is needed and none exists";
    -- "(none is needed for total 0)"
    ∷ (2 ∷ 2 ∷ 3 ∷ 8 ∷ 8 ∷ 6 ∷ 0 ∷ 0 ∷ [])
    ∷ (1 ∷ 1 ∷ 2 ∷ [])
    -- "After 1 and 2: 4, no such group; 3, that group not sound"
    ∷ (4 ∷ 3 ∷ 0 ∷ [])
    ∷ (1 ∷ 1 ∷ 2 ∷ [])
    -- "refuses as compaction"
    ∷ (2 ∷ 4 ∷ 3 ∷ 0 ∷ [])
    ∷ (1 ∷ 1 ∷ 2 ∷ [])
    -- "It uses lookup's refusals except 7"
    ∷ (2 ∷ 4 ∷ 3 ∷ 0 ∷ 0 ∷ 0 ∷ 2 ∷ 4 ∷ [])
    -- "It refuses 1, 2, 3 for the first state, then the second, then 7 if any lookup does"
    ∷ (1 ∷ 1 ∷ 2 ∷ 2 ∷ 3 ∷ 7 ∷ 7 ∷ 0 ∷ [])
    ∷ (1 ∷ 1 ∷ 2 ∷ 2 ∷ 3 ∷ 7 ∷ 7 ∷ 0 ∷ [])
    ∷ (3 ∷ 3 ∷ 7 ∷ [])
    ∷ []

-- The table of refusals.
pub refusals : given ≡ stated
unfolding everything small unformatted flush_on collect_on formatted_then new sized grouped counted spared single too_short outside long_state long_spare empty_level overfull no_such_page not_named_there discarded_there full none_free refused_by opened opened_with first second given stated
refusals = refl

-- What an agreement answers of two devices after these calls.
says : Device → List Call → Device → List Call → Answer
says d cs d' cs' = (run (agreement_of (formatted_then d cs) (formatted_then d' cs')) new.state new.spare).answer

-- "yes if N is equal and every lookup gives the same page, or 'not written' in both", and "also .. the same predicted page and the same
-- count of levels"
pub agreements : List Answer
agreements =
    -- nothing written in both; the same page; another page; written in one only; nothing written, but N differs; discarded in one and never
    -- written in the other, 0 levels and 1; the same in a group without records, 0 levels in both; discarded in one and written in the
    -- other; discarded in both
    says small [] small []
    ∷ says small (flush_on small (0 ∷ []) ∷ []) small (flush_on small (0 ∷ []) ∷ [])
    ∷ says small (flush_on small (0 ∷ 1 ∷ []) ∷ []) small (flush_on small (0 ∷ []) ∷ flush_on small (1 ∷ []) ∷ [])
    ∷ says small (flush_on small (0 ∷ []) ∷ []) small []
    ∷ says small [] (record { M = 3; B = 4; N = 3; g = 0 }) []
    ∷ says small (flush_on small (1 ∷ []) ∷ discard_call 0 ∷ []) small (flush_on small (1 ∷ []) ∷ [])
    ∷ says small (discard_call 0 ∷ []) small []
    ∷ says small (flush_on small (0 ∷ []) ∷ discard_call 0 ∷ []) small (flush_on small (0 ∷ []) ∷ [])
    ∷ says small (flush_on small (0 ∷ []) ∷ discard_call 0 ∷ []) small (flush_on small (0 ∷ []) ∷ discard_call 0 ∷ [])
    ∷ []

pub agree : agreements ≡ agreed true ∷ agreed true ∷ agreed false ∷ agreed false ∷ agreed false ∷ agreed false ∷ agreed true ∷ agreed false ∷ agreed true ∷ []
unfolding everything small unformatted flush_on collect_on formatted_then new says agreements
agree = refl
