-- Document 01, 'Cases': those marked P, with one of a discarded page, two of wrong predictions, three of agreement and seven of telling why
-- (document 02, a, b, f and g), as one table. What the definitions give is what the documents say. Assumes nothing.
use Rattle.std.specs.Prelude.{◌≡◌, refl, List, [], ◌∷◌, ◌++◌, false, ℕ, zero, suc, pos, negsuc}
use Rattle.model.specs.Device.{Device}
use Rattle.calls.specs.Refusals.{no_free_block}
use Rattle.calls.specs.Outcome.{formatted, flushed, found, not_written, discarded, collected, agreed, explained, refused}
use Rattle.calls.specs.History.{Call, format_call, lookup_call, discard_call, compact_call, Past, step, steps}
use Rattle.cases.specs.Shown.{Shown, records, predictions, plan, answer, telling, row, learned, predicted, planned, called, lookups, compared, tellings}
use Rattle.cases.specs.Small.{small, unformatted, flush_on, collect_on}
use Rattle.cases.specs.Opens.{everything}

-- the n logical pages from x on
pages : ℕ → ℕ → List ℕ
pages zero x = []
pages (suc n) x = x ∷ pages n (suc x)

-- "M 3, B 4, N 4, g 0"
small_calls : List Call
small_calls =
    format_call small ∷ flush_on small (0 ∷ []) ∷ flush_on small (0 ∷ []) ∷ flush_on small (0 ∷ []) ∷ collect_on small ∷ lookup_call 0 ∷ []

-- M 3, B 4, N 4, g 0: a page discarded, collected while it is, and written again
discard_calls : List Call
discard_calls =
    format_call small ∷ flush_on small (0 ∷ 1 ∷ []) ∷ discard_call 0 ∷ lookup_call 0 ∷ lookup_call 1 ∷ flush_on small (2 ∷ 3 ∷ []) ∷ collect_on small ∷ lookup_call 0
    ∷ flush_on small (0 ∷ []) ∷ lookup_call 0 ∷ []

-- "Script (M 9, B 64, N 256, g 1; after the paper's figure 13)"
scripted : Device
scripted = record { M = 9; B = 64; N = 256; g = 1 }

flush_of : List ℕ → Call
flush_of batch = flush_on scripted batch

-- "flush 0 to 63; 200 to 255; 16 to 31; 75, 78, 82; 72, 73, 80"
early : Past
early =
    steps (format_call scripted ∷ flush_of (pages 64 0) ∷ flush_of (pages 56 200) ∷ flush_of (pages 16 16)
    ∷ flush_of (75 ∷ 78 ∷ 82 ∷ []) ∷ flush_of (72 ∷ 73 ∷ 80 ∷ []) ∷ []) (unformatted scripted)

-- "Flush 32 to 90."
late : Past
late = step (flush_of (pages 59 32)) early

-- M 4, B 4, N 4, g 0: flush 1; 0, 2; 0. Then group 0 compacted
four : Device
four = record { M = 4; B = 4; N = 4; g = 0 }

grown : Past
grown = steps (format_call four ∷ flush_on four (1 ∷ []) ∷ flush_on four (0 ∷ 2 ∷ []) ∷ flush_on four (0 ∷ []) ∷ []) (unformatted four)

tidied : Past
tidied = step (compact_call 0) grown

-- M 3, B 4, N 4, g 0: flush 0, 1. Then 3 discarded
pair : Past
pair = steps (format_call small ∷ flush_on small (0 ∷ 1 ∷ []) ∷ []) (unformatted small)

without_last : Past
without_last = step (discard_call 3) pair

-- M 3, B 8, N 8, g 1: flush a batch; discard 6
eight : Device
eight = record { M = 3; B = 8; N = 8; g = 1 }

without_six : List ℕ → Past
without_six batch = steps (format_call eight ∷ flush_on eight batch ∷ discard_call 6 ∷ []) (unformatted eight)

-- M 4, B 4, N 4, g 0: flush 1, 3
strided : Past
strided = steps (format_call four ∷ flush_on four (1 ∷ 3 ∷ []) ∷ []) (unformatted four)

-- M 6, B 4, N 9, g 1: flush 0, 1, 4, 5; 3, 4, 8, which takes 4; 2, 6, 7, which covers 4 and 5
taken : Past
taken =
    let d : Device = record { M = 6; B = 4; N = 9; g = 1 } in
    steps (format_call d ∷ flush_on d (0 ∷ 1 ∷ 4 ∷ 5 ∷ []) ∷ flush_on d (3 ∷ 4 ∷ 8 ∷ []) ∷ flush_on d (2 ∷ 6 ∷ 7 ∷ []) ∷ []) (unformatted d)

-- what the definitions give
pub given : List Shown
given =
    learned 0 0 (100 ∷ 102 ∷ 104 ∷ 106 ∷ [])
    ∷ learned 0 64 (101 ∷ 103 ∷ [])
    ∷ learned 1 64 (0 ∷ 1 ∷ 4 ∷ 5 ∷ [])
    ∷ predicted 1 64 (0 ∷ 1 ∷ 4 ∷ 5 ∷ [])
    ∷ learned 1 64 (0 ∷ 1 ∷ 2 ∷ 6 ∷ [])
    ∷ predicted 1 64 (0 ∷ 1 ∷ 2 ∷ 6 ∷ [])
    ∷ learned 1 64 (0 ∷ 1 ∷ 2 ∷ 3 ∷ 6 ∷ 14 ∷ 34 ∷ [])
    ∷ learned 0 64 (0 ∷ 1 ∷ 4 ∷ 5 ∷ [])
    ∷ learned 0 0 (255 ∷ 256 ∷ [])
    ∷ learned 1 0 (255 ∷ 256 ∷ [])
    ∷ planned (7 ∷ 7 ∷ [])
    ∷ (called small_calls (unformatted small) ++ called discard_calls (unformatted small) ++ (lookups early (50 ∷ 78 ∷ 82 ∷ []) ++ lookups late (78 ∷ []))
    ++ compared grown tidied (pages 4 0) ++ compared pair without_last (pages 4 0) ++ compared (without_six (0 ∷ 1 ∷ 2 ∷ 6 ∷ [])) (without_six (0 ∷ 1 ∷ 2 ∷ [])) (pages 8 0)
    ++ (tellings early (78 ∷ 76 ∷ []) ++ tellings pair (3 ∷ []) ++ tellings without_last (3 ∷ []) ++ tellings strided (2 ∷ []) ++ tellings taken (4 ∷ 5 ∷ [])))

-- what document 01 says; an answer's numbers in its order, so a lookup's are page, predicted page, levels
pub stated : List Shown
stated =
    -- "g 0, batch 100, 102, 104, 106 from page 0: 100, 6, 4, −50"
    records (row 0 100 6 4 (negsuc 49) ∷ [])
    -- "g 0, batch 101, 103 from page 64: 101, 2, 4, 13"
    ∷ records (row 0 101 2 4 (pos 13) ∷ [])
    -- "case 0, 1, 4, 5 from page 64 becomes 0, 5, 207, 64" at g 1; predictions 64, 65, 66, 67
    ∷ records (row 0 0 5 207 (pos 64) ∷ [])
    ∷ predictions (pos 64 ∷ pos 65 ∷ pos 66 ∷ pos 67 ∷ [])
    -- g 1, batch 0, 1, 2, 6 from page 64: slope 86 with one wrong prediction, page 65 for 2; the smallest, 1, has three
    ∷ records (row 0 0 6 173 (pos 64) ∷ [])
    ∷ predictions (pos 64 ∷ pos 65 ∷ pos 65 ∷ pos 67 ∷ [])
    -- g 1, batch 0, 1, 2, 3, 6, 14, 34 from page 64: of slope 86's intercepts 64 and 65, each with three wrong ones of six, the smaller
    ∷ records (row 0 0 14 173 (pos 64) ∷ row 0 34 0 0 (pos 70) ∷ [])
    -- "g 0, the same: 0, 1, 2, 64 and 4, 1, 2, 62"
    ∷ records (row 0 0 1 2 (pos 64) ∷ row 0 4 1 2 (pos 62) ∷ [])
    -- "batch 255, 256 from page 0: singles 255, 0, 0, 0 and 0, 0, 0, 1 in two groups", at g 0 and at g 1
    ∷ records (row 0 255 0 0 (pos 0) ∷ row 1 0 0 0 (pos 1) ∷ [])
    ∷ records (row 0 255 0 0 (pos 0) ∷ row 1 0 0 0 (pos 1) ∷ [])
    -- "batch 7, 7: one page, plan entry 1"
    ∷ plan (1 ∷ [])
    -- "flush 0, flush 0, a third refused 6; collection erases 0, 1, copies page 4 to 8; lookup 0 gives page 8"
    ∷ answer formatted [] []
    ∷ answer (flushed 0 1) (0 ∷ 99 ∷ 99 ∷ 99 ∷ []) []
    ∷ answer (flushed 4 1) (0 ∷ 99 ∷ 99 ∷ 99 ∷ []) []
    ∷ answer (refused no_free_block) (99 ∷ 99 ∷ 99 ∷ 99 ∷ []) []
    ∷ answer (collected 8 1 2) (4 ∷ 99 ∷ 99 ∷ 99 ∷ []) (0 ∷ 1 ∷ 99 ∷ [])
    ∷ answer (found 8 8 1) [] []
    -- flush 0, 1; discard 0; lookup 0: not written, 0 levels; lookup 1: page 1, 1 level
    ∷ answer formatted [] []
    ∷ answer (flushed 0 2) (0 ∷ 1 ∷ 99 ∷ 99 ∷ []) []
    ∷ answer discarded [] []
    ∷ answer (not_written 0) [] []
    ∷ answer (found 1 1 1) [] []
    -- flush 2, 3; collection erases 0, 1, copies pages 1, 4, 5 to 8 on: page 0 is not valid; lookup 0: not written, 0 levels
    ∷ answer (flushed 4 2) (0 ∷ 1 ∷ 99 ∷ 99 ∷ []) []
    ∷ answer (collected 8 3 2) (1 ∷ 4 ∷ 5 ∷ 99 ∷ []) (0 ∷ 1 ∷ 99 ∷ [])
    ∷ answer (not_written 0) [] []
    -- flush 0; lookup 0: page 0, 1 level
    ∷ answer (flushed 0 1) (0 ∷ 99 ∷ 99 ∷ 99 ∷ []) []
    ∷ answer (found 0 0 1) [] []
    -- "lookup 50: page 50, 2 levels"
    ∷ answer (found 50 50 2) [] []
    -- "lookup 78: page 193, 2 levels"
    ∷ answer (found 193 193 2) [] []
    -- "its script's lookup 82 predicts 194"
    ∷ answer (found 194 194 2) [] []
    -- "lookup 78: page 366, 1 level"
    ∷ answer (found 366 366 1) [] []
    -- flush 1; 0, 2; 0: lookup 1 looks at 2 levels; once group 0 is compacted, at 1. So agreement says no, though every page is the same
    ∷ answer (found 8 8 1) [] []
    ∷ answer (found 0 0 2) [] []
    ∷ answer (found 5 5 1) [] []
    ∷ answer (not_written 2) [] []
    ∷ answer (found 8 8 1) [] []
    ∷ answer (found 0 0 1) [] []
    ∷ answer (found 5 5 1) [] []
    ∷ answer (not_written 1) [] []
    ∷ answer (agreed false) [] []
    -- flush 0, 1: 3 was never written, 1 level; once it is discarded, 0 levels
    ∷ answer (found 0 0 1) [] []
    ∷ answer (found 1 1 1) [] []
    ∷ answer (not_written 1) [] []
    ∷ answer (not_written 1) [] []
    ∷ answer (found 0 0 1) [] []
    ∷ answer (found 1 1 1) [] []
    ∷ answer (not_written 1) [] []
    ∷ answer (not_written 0) [] []
    ∷ answer (agreed false) [] []
    -- flush 0, 1, 2, 6, or 0, 1, 2, and discard 6: only the page predicted for 2 is another
    ∷ answer (found 0 0 1) [] []
    ∷ answer (found 1 1 1) [] []
    ∷ answer (found 2 1 1) [] []
    ∷ answer (not_written 1) [] []
    ∷ answer (not_written 1) [] []
    ∷ answer (not_written 1) [] []
    ∷ answer (not_written 0) [] []
    ∷ answer (not_written 1) [] []
    ∷ answer (found 0 0 1) [] []
    ∷ answer (found 1 1 1) [] []
    ∷ answer (found 2 2 1) [] []
    ∷ answer (not_written 1) [] []
    ∷ answer (not_written 1) [] []
    ∷ answer (not_written 1) [] []
    ∷ answer (not_written 0) [] []
    ∷ answer (not_written 1) [] []
    ∷ answer (agreed false) [] []
    -- why 78: the record of 72, 73, 80 covers it and doesn't own it; the owner, that of 75, 78, 82, has it
    ∷ telling (explained 2)
    (72 ∷ 8 ∷ 79 ∷ 0 ∷ 245 ∷ 0 ∷ 0 ∷ 0 ∷ 2 ∷ 1 ∷ 75 ∷ 0
    ∷ 75 ∷ 7 ∷ 89 ∷ 0 ∷ 179 ∷ 0 ∷ 0 ∷ 0 ∷ 3 ∷ 0 ∷ 0 ∷ 0 ∷ 99 ∷ [])
    -- why 76: both cover it and nobody owns it
    ∷ telling (explained 2)
    (72 ∷ 8 ∷ 79 ∷ 0 ∷ 245 ∷ 0 ∷ 0 ∷ 0 ∷ 2 ∷ 0 ∷ 0 ∷ 0
    ∷ 75 ∷ 7 ∷ 89 ∷ 0 ∷ 179 ∷ 0 ∷ 0 ∷ 0 ∷ 2 ∷ 0 ∷ 0 ∷ 0 ∷ 99 ∷ [])
    -- flush 0, 1, why 3: no record covers it; "a discarded page lists nothing"
    ∷ telling (explained 1) (0 ∷ 0 ∷ 0 ∷ 0 ∷ 0 ∷ 0 ∷ 0 ∷ 0 ∷ 0 ∷ 0 ∷ 0 ∷ 0 ∷ 99 ∷ [])
    ∷ telling (explained 0) (99 ∷ [])
    -- flush 1, 3, why 2: 1, 2, 4, −1 covers it, and it is off the stride
    ∷ telling (explained 1) (1 ∷ 2 ∷ 4 ∷ 0 ∷ 255 ∷ 255 ∷ 255 ∷ 255 ∷ 1 ∷ 0 ∷ 0 ∷ 0 ∷ 99 ∷ [])
    -- why 4: taken from the first record by that of 3, 4, 8, the owner; the newest record covers it
    ∷ telling (explained 2)
    (2 ∷ 5 ∷ 149 ∷ 0 ∷ 7 ∷ 0 ∷ 0 ∷ 0 ∷ 2 ∷ 1 ∷ 3 ∷ 0
    ∷ 3 ∷ 5 ∷ 131 ∷ 0 ∷ 3 ∷ 0 ∷ 0 ∷ 0 ∷ 3 ∷ 0 ∷ 0 ∷ 0 ∷ 99 ∷ [])
    -- why 5: not taken; the owner starts at 0, and the 1 before tells it from none
    ∷ telling (explained 3)
    (2 ∷ 5 ∷ 149 ∷ 0 ∷ 7 ∷ 0 ∷ 0 ∷ 0 ∷ 2 ∷ 1 ∷ 0 ∷ 0
    ∷ 3 ∷ 5 ∷ 131 ∷ 0 ∷ 3 ∷ 0 ∷ 0 ∷ 0 ∷ 2 ∷ 1 ∷ 0 ∷ 0
    ∷ 0 ∷ 5 ∷ 207 ∷ 0 ∷ 0 ∷ 0 ∷ 0 ∷ 0 ∷ 3 ∷ 0 ∷ 0 ∷ 0 ∷ 99 ∷ [])
    ∷ []

-- The table.
pub table : given ≡ stated
unfolding everything small unformatted flush_on collect_on pages small_calls discard_calls scripted flush_of early late four grown tidied pair without_last eight without_six strided taken given stated
table = refl
