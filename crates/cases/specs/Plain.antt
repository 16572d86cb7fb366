-- Document 02, d: each refusal of each call of the plain engine, met on the smallest device, has the document's number, and where two
-- apply it is the first, on damaged tables too, which no list of calls from a format makes; and a script with its answers and the table
-- that it leaves. Assumes nothing.
use Rattle.std.specs.Prelude.{◌≡◌, refl, List, [], ◌∷◌, map, ℕ, replicate}
use Rattle.model.specs.Device.{Device}
use Rattle.calls.specs.Outcome.{formatted, flushed, found, not_written, discarded, collected, number}
use Rattle.plain.specs.Table.{Table, no_page}
use Rattle.plain.specs.Calls.{Common, format, flush, lookup, discard, collect, run}
use Rattle.cases.specs.Shown.{Shown, answer}
use Rattle.cases.specs.Small.{small}
use Rattle.cases.specs.PlainSmall.{unformatted_table, flush_of, collect_of, table_after, show_table}
use Rattle.cases.specs.Opens.{everything}

-- a device after its format and these calls
formatted_then : Device → List Common → Table
formatted_then d cs = table_after run (format d ∷ cs) (unformatted_table d)

new : Table
new = formatted_then small []

-- The same with another length and other device numbers; with these counts and entries.
sized : ℕ → Device → Table
sized n d = record { bytes = n; device = d; counts = new.counts; entries = new.entries }

holding : List ℕ → List ℕ → Table
holding cs es = record { bytes = new.bytes; device = small; counts = cs; entries = es }

-- 1 where the state is too short or the numbers are outside limits; the length is 16 + 3 × 2 + 4 × 4 = 38
too_short : Table
too_short = sized 15 small

outside : Table
outside = sized 38 (record { M = 2; B = 4; N = 4; g = 0 })

-- 2 where the state holds the device numbers and no more, or is one byte longer
head_only : Table
head_only = sized 16 small

long : Table
long = sized 39 small

-- "Its refusal 3 is an entry that is neither 4,294,967,295 (not written) nor a written page": logical page 0's names the page behind the
-- two written ones of block 0; the first page of a free block; page 12 of 12; logical page 1's names a written page
beyond_count : Table
beyond_count = holding (2 ∷ 0 ∷ 0 ∷ []) (2 ∷ 1 ∷ no_page ∷ no_page ∷ [])

in_free_block : Table
in_free_block = holding (2 ∷ 0 ∷ 0 ∷ []) (4 ∷ 1 ∷ no_page ∷ no_page ∷ [])

no_such_page : Table
no_such_page = holding (2 ∷ 0 ∷ 0 ∷ []) (12 ∷ 1 ∷ no_page ∷ no_page ∷ [])

-- "for flush and collection also two entries naming one page, or a count above B"
named_twice : Table
named_twice = holding (2 ∷ 0 ∷ 0 ∷ []) (1 ∷ 1 ∷ no_page ∷ no_page ∷ [])

overfull : Table
overfull = holding (5 ∷ 0 ∷ 0 ∷ []) (0 ∷ 1 ∷ no_page ∷ no_page ∷ [])

damaged : List Table
damaged = beyond_count ∷ in_free_block ∷ no_such_page ∷ named_twice ∷ overfull ∷ []

-- "6, fewer than two free blocks", and none
full : Table
full = formatted_then small (flush_of small (0 ∷ []) ∷ flush_of small (1 ∷ []) ∷ [])

none_free : Table
none_free = holding (1 ∷ 1 ∷ 1 ∷ []) (0 ∷ 4 ∷ no_page ∷ no_page ∷ [])

-- the number by which a call is refused on a table, 0 where it is accepted
refused_by : Common → Table → ℕ
refused_by c t = number (run c t).answer

-- a call on tables where every one but format is refused 1, 1, 2 and 2
opened : Common → List ℕ
opened c = map (refused_by c) (too_short ∷ outside ∷ head_only ∷ long ∷ [])

-- what the definitions give, a list for each call
pub given : List (List ℕ)
given =
    -- format
    (refused_by (format small) (unformatted_table small)
    ∷ refused_by (format (record { M = 3; B = 4; N = 5; g = 0 })) (unformatted_table small)
    ∷ refused_by (format (record { M = 3; B = 4; N = 4; g = 16 })) (unformatted_table small)
    ∷ refused_by (format small) long
    ∷ refused_by (format (record { M = 3; B = 4; N = 5; g = 0 })) long
    ∷ [])
    -- flush
    ∷ opened (flush_of small (0 ∷ []))
    ∷ map (refused_by (flush_of small (0 ∷ []))) damaged
    ∷ (refused_by (flush (0 ∷ []) (replicate 5 0)) new
    ∷ refused_by (flush_of small []) new
    ∷ refused_by (flush_of small (0 ∷ 0 ∷ 0 ∷ 0 ∷ 0 ∷ [])) new
    ∷ refused_by (flush_of small (0 ∷ 4 ∷ [])) new
    ∷ refused_by (flush_of small (0 ∷ [])) full
    ∷ refused_by (flush_of small (0 ∷ [])) new
    ∷ [])
    -- flush where two apply: 2 and 3, 3 and 5, 5 and 4, 4 and 6
    ∷ (refused_by (flush (0 ∷ []) (replicate 5 0)) named_twice
    ∷ refused_by (flush_of small []) named_twice
    ∷ refused_by (flush_of small (0 ∷ 0 ∷ 0 ∷ 0 ∷ 4 ∷ [])) new
    ∷ refused_by (flush_of small (4 ∷ [])) full
    ∷ [])
    -- lookup; of logical page 1, where another's entry is damaged; where two apply: 2 and 4 (4 and 3 can't: page 4 has no entry)
    ∷ opened (lookup 0)
    ∷ map (refused_by (lookup 0)) damaged
    ∷ map (refused_by (lookup 1)) damaged
    ∷ (refused_by (lookup 4) new ∷ refused_by (lookup 0) new ∷ refused_by (lookup 4) long ∷ [])
    -- discard, likewise
    ∷ opened (discard 0)
    ∷ map (refused_by (discard 0)) damaged
    ∷ map (refused_by (discard 1)) damaged
    ∷ (refused_by (discard 4) new ∷ refused_by (discard 0) new ∷ refused_by (discard 4) long ∷ [])
    -- collection
    ∷ opened (collect_of small)
    ∷ map (refused_by (collect_of small)) damaged
    ∷ (refused_by (collect (replicate 5 0) (replicate 3 0)) new
    ∷ refused_by (collect (replicate 4 0) (replicate 4 0)) new
    ∷ refused_by (collect_of small) new
    ∷ refused_by (collect_of small) (formatted_then small (flush_of small (0 ∷ []) ∷ []))
    ∷ refused_by (collect_of small) none_free
    ∷ refused_by (collect_of small) full
    ∷ refused_by (collect_of small) (holding (1 ∷ 1 ∷ 1 ∷ []) new.entries)
    ∷ [])
    -- collection where two apply: 2 and 3, 3 and 8, 3 and 6 (8 and 6 can't: where no block is free, two or more are taken)
    ∷ (refused_by (collect (replicate 5 0) (replicate 3 0)) named_twice
    ∷ refused_by (collect_of small) named_twice
    ∷ refused_by (collect_of small) (holding (1 ∷ 1 ∷ 1 ∷ []) (0 ∷ 0 ∷ no_page ∷ no_page ∷ []))
    ∷ [])
    ∷ []

-- what document 02 says, with document 01's orders
pub stated : List (List ℕ)
stated =
    -- "refuses 1 when a device number is outside its limits, then 2"
    (0 ∷ 1 ∷ 1 ∷ 2 ∷ 1 ∷ [])
    -- "1 when the state is too short to hold the device numbers or they are outside limits, and 2 when a lent slice has a wrong length"
    ∷ (1 ∷ 1 ∷ 2 ∷ 2 ∷ [])
    ∷ (3 ∷ 3 ∷ 3 ∷ 3 ∷ 3 ∷ [])
    -- "After 1 and 2: 3, state not sound; 5, batch empty or longer than B; 4, a logical page is N or more; 6, fewer than two free blocks"
    ∷ (2 ∷ 5 ∷ 5 ∷ 4 ∷ 6 ∷ 0 ∷ [])
    ∷ (2 ∷ 3 ∷ 5 ∷ 4 ∷ [])
    ∷ (1 ∷ 1 ∷ 2 ∷ 2 ∷ [])
    -- "for lookup and discard their own; for flush and collection also two entries naming one page, or a count above B"
    ∷ (3 ∷ 3 ∷ 3 ∷ 0 ∷ 0 ∷ [])
    ∷ (0 ∷ 0 ∷ 0 ∷ 0 ∷ 0 ∷ [])
    ∷ (4 ∷ 0 ∷ 2 ∷ [])
    ∷ (1 ∷ 1 ∷ 2 ∷ 2 ∷ [])
    ∷ (3 ∷ 3 ∷ 3 ∷ 0 ∷ 0 ∷ [])
    ∷ (0 ∷ 0 ∷ 0 ∷ 0 ∷ 0 ∷ [])
    ∷ (4 ∷ 0 ∷ 2 ∷ [])
    ∷ (1 ∷ 1 ∷ 2 ∷ 2 ∷ [])
    ∷ (3 ∷ 3 ∷ 3 ∷ 3 ∷ 3 ∷ [])
    -- "After 1 and 2: 3; 8, no block is used, or one is taken with total above 0; 6, a free block is needed and none exists";
    -- "(none is needed for total 0)"
    ∷ (2 ∷ 2 ∷ 8 ∷ 8 ∷ 6 ∷ 0 ∷ 0 ∷ [])
    ∷ (2 ∷ 3 ∷ 3 ∷ [])
    ∷ []

-- The table of refusals.
pub plain-refusals : given ≡ stated
unfolding everything small unformatted_table table_after flush_of collect_of formatted_then new sized holding too_short outside head_only long beyond_count in_free_block no_such_page named_twice overfull damaged full none_free refused_by opened given stated
plain-refusals = refl

-- THE SCRIPT. M 4, B 4, N 6, g 0: a page written, found, discarded and not found; then a collection that takes block 2, with one valid
-- page, and of blocks 0 and 1, with two each, block 0.
scripted : Device
scripted = record { M = 4; B = 4; N = 6; g = 0 }

script : List Common
script =
    format scripted ∷ flush_of scripted (3 ∷ 2 ∷ 1 ∷ 0 ∷ []) ∷ lookup 1 ∷ discard 1 ∷ lookup 1 ∷ flush_of scripted (4 ∷ 5 ∷ []) ∷ flush_of scripted (0 ∷ 0 ∷ [])
    ∷ collect_of scripted ∷ lookup 2 ∷ []

-- the calls, one after the other
called : List Common → Table → List Shown
called [] t = []
called (c ∷ cs) t = show_table (run c t) ∷ called cs (run c t).after.table

pub answers : List Shown
answers = called script (unformatted_table scripted)

pub stated_answers : List Shown
stated_answers =
    answer formatted [] []
    ∷ answer (flushed 0 4) (3 ∷ 2 ∷ 1 ∷ 0 ∷ []) []
    ∷ answer (found 1 1 0) [] []
    ∷ answer discarded [] []
    ∷ answer (not_written 0) [] []
    ∷ answer (flushed 4 2) (0 ∷ 1 ∷ 99 ∷ 99 ∷ []) []
    ∷ answer (flushed 8 1) (1 ∷ 99 ∷ 99 ∷ 99 ∷ []) []
    -- logical pages 0, 2 and 3 are copied from pages 8, 2 and 3
    ∷ answer (collected 12 3 2) (8 ∷ 2 ∷ 3 ∷ 99 ∷ []) (2 ∷ 0 ∷ 99 ∷ 99 ∷ [])
    ∷ answer (found 13 13 0) [] []
    ∷ []

-- What the script answers ..
pub plain-answers : answers ≡ stated_answers
unfolding everything unformatted_table flush_of collect_of show_table scripted script called answers stated_answers
plain-answers = refl

-- .. and the table that it leaves: 16 + 4 × 2 + 6 × 4 = 48 bytes, blocks 0 and 2 free, logical page 1 not written
pub left : Table
left = table_after run script (unformatted_table scripted)

pub stated_left : Table
stated_left = record { bytes = 48; device = scripted; counts = 0 ∷ 2 ∷ 0 ∷ 3 ∷ []; entries = 12 ∷ no_page ∷ 13 ∷ 14 ∷ 4 ∷ 5 ∷ [] }

pub plain_left_lem : left ≡ stated_left
unfolding everything unformatted_table flush_of collect_of table_after scripted script left stated_left
plain_left_lem = refl
