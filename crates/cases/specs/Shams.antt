-- Document 01, 'Tight promises' 3: "These shams have to be rejected"; and those that document 02's discard tempts to. Each is a way of
-- making the calls that differs from the definitions' in one, and is run on the smallest device; proofs/Rejected.antt refutes it.
-- Assumes nothing.
use Rattle.std.specs.Prelude.{◌≡◌, refl, List, [], ◌∷◌, ◌++◌, true, false, ℕ, suc, take, replicate}
use Rattle.std.proofs.Math.Option.{Option, none, some}
use Rattle.model.specs.Device.{group_of, offset_of}
use Rattle.model.specs.Lists.{store}
use Rattle.model.specs.Spare.{program_block}
use Rattle.model.specs.Learning.{Write, Run, sources, learn}
use Rattle.model.specs.Levels.{levels_to}
use Rattle.model.specs.Marks.{is_marked}
use Rattle.model.specs.State.{with_marks, with_groups, group_at, used_blocks, lowest_free}
use Rattle.model.specs.Sound.{is_empty}
use Rattle.model.specs.Demand2.{read_at, read_by, reads_back}
use Rattle.model.specs.NoShorter.{Learner}
use Rattle.calls.specs.Refusals.{◌when◌, out_of_range, no_free_block, not_named, nothing_to_gain}
use Rattle.calls.specs.Outcome.{Lent, with_state, with_plan, Answer, flushed, found, not_written, discarded, collected, refused, Outcome, unless}
use Rattle.calls.specs.Flush.{flush_checks, write_block, flush_done}
use Rattle.calls.specs.Lookup.{Looked, at, nowhere, unnamed, descend, seek, answer_of, lookup_checks}
use Rattle.calls.specs.Discard.{discard_checks, discard_done}
use Rattle.calls.specs.Choice.{blocks_of}
use Rattle.calls.specs.Collection.{victims, moves, admit_checks, collect_checks, erase_blocks, list_erased, collect_done}
use Rattle.calls.specs.Book.{Arrival, last_write}
use Rattle.calls.specs.History.{Call, lookup_call, discard_call}
use Rattle.cases.specs.Small.{small, unformatted, flush_on, collect_on}
use Rattle.cases.specs.Ways.{Way, defined, with_flush, with_lookup, with_discard, with_collect, made, next, nexts, after}
use Rattle.cases.specs.Opens.{everything}

-- "'Not written' to every lookup"
unfoldable pub always_unwritten : Way
always_unwritten = with_lookup (λ y x. unless (lookup_checks y x) x (record { answer = not_written 0; after = x })) defined

-- "a flush that plans but stores no record": the groups stay as they were
unfoldable pub flushed_unrecorded : List ℕ → Lent → Outcome
flushed_unrecorded batch x =
    let o : Outcome = flush_done batch x in
    record { answer = o.answer; after = with_state (with_groups x.state.groups o.after.state) o.after }

unfoldable pub stores_no_record : Way
stores_no_record = with_flush (λ batch x. unless (flush_checks batch x) x (flushed_unrecorded batch x)) defined

-- "a collection that moves the first page and merely plans the rest"
unfoldable pub move_first : List Write → Lent → Lent
move_first [] x = x
move_first (w ∷ ws) x = with_plan (store x.plan 0 (sources (w ∷ ws))) (write_block (w ∷ []) (lowest_free x.state) x)

unfoldable pub collected_first : Lent → Outcome
collected_first x =
    let ks : List ℕ = blocks_of (victims x.state x.spare) in
    record { answer = (collect_done x).answer; after = list_erased ks (erase_blocks ks (move_first (moves x.state x.spare) x)) }

unfoldable pub moves_first_only : Way
moves_first_only = with_collect (λ x. unless (collect_checks x) x (collected_first x)) defined

-- "a flush refused always"
unfoldable pub refuses_flushes : Way
refuses_flushes = with_flush (λ batch x. unless (flush_checks batch x ++ (no_free_block when true ∷ [])) x (flush_done batch x)) defined

-- "One record for the first run and none after"
unfoldable pub learn_first : Learner
learn_first g p written = take 1 (learn g p written)

-- "A level count off by one"
unfoldable pub deeper : Looked → Looked
deeper (at p q n) = at p q (suc n)
deeper (nowhere n) = nowhere (suc n)
deeper unnamed = unnamed

unfoldable pub looked_deeper : ℕ → Lent → Outcome
looked_deeper y x = record { answer = answer_of (deeper (seek x.state x.spare y)); after = x }

unfoldable pub counts_one_level_more : Way
counts_one_level_more = with_lookup (λ y x. unless (lookup_checks y x) x (looked_deeper y x)) defined

-- "'no free block' on a new device"
unfoldable pub new_device_full : Way
new_device_full = with_flush (λ batch x. unless (flush_checks batch x ++ (no_free_block when is_empty (used_blocks 0 x.state.counts) ∷ [])) x (flush_done batch x)) defined

-- "'nothing to gain' before counting"
unfoldable pub gain_uncounted : Way
gain_uncounted = with_collect (λ x. unless (admit_checks x ++ (nothing_to_gain when true ∷ [])) x (collect_done x)) defined

-- a discard that says yes and marks nothing
unfoldable pub marks_nothing : Way
marks_nothing = with_discard (λ y x. unless (discard_checks y x) x (record { answer = discarded; after = x })) defined

-- a discard refused always
unfoldable pub refuses_discards : Way
refuses_discards = with_discard (λ y x. unless (discard_checks y x ++ (out_of_range when true ∷ [])) x (discard_done y x)) defined

-- a flush that leaves the mark
unfoldable pub flushed_marked : List ℕ → Lent → Outcome
flushed_marked batch x =
    let o : Outcome = flush_done batch x in
    record { answer = o.answer; after = with_state (with_marks x.state.marks o.after.state) o.after }

unfoldable pub leaves_mark : Way
leaves_mark = with_flush (λ batch x. unless (flush_checks batch x) x (flushed_marked batch x)) defined

-- a lookup of a marked page with all its levels
unfoldable pub looked_through : ℕ → Lent → Outcome
looked_through y x =
    let n : ℕ = levels_to (offset_of y) (group_at x.state (group_of y)) in
    record { answer = answer_of (elim (is_marked x.state.marks y) [ true ↦ nowhere n | false ↦ descend x.state x.spare y ]); after = x }

unfoldable pub counts_levels : Way
counts_levels = with_lookup (λ y x. unless (lookup_checks y x) x (looked_through y x)) defined

-- a collection that still copies a discarded page: as if no page were marked, but for what it leaves
unfoldable pub collected_marked : Lent → Outcome
collected_marked x =
    let o : Outcome = collect_done (with_state (with_marks [] x.state) x) in
    record { answer = o.answer; after = with_state (with_marks x.state.marks o.after.state) o.after }

unfoldable pub copies_discarded : Way
copies_discarded = with_collect (λ x. unless (collect_checks x) x (collected_marked x)) defined

-- What a sham answers, and what is right after the same calls.
pub record Beside : Type 0 where
  pub sham : Answer
  pub right : Answer

abbrev pub beside : Answer → Answer → Beside
beside a b = record { sham = a; right = b }

-- the answer of a call after others
unfoldable pub answer_by : Way → List Call → Call → Answer
answer_by w cs c = (made w c (after w cs).state (after w cs).spare).answer

unfoldable pub both : Way → List Call → Call → Beside
both w cs c = beside (answer_by w cs c) (answer_by defined cs c)

-- a flush of one logical page; a collection
unfoldable pub flush_of : ℕ → Call
flush_of x = flush_on small (x ∷ [])

unfoldable pub collection : Call
collection = collect_on small

-- 0 and 1 flushed, each to a block of its own, and both blocks collected
unfoldable pub collected01 : List Call
collected01 = flush_of 0 ∷ flush_of 1 ∷ collection ∷ []

-- 0 flushed and discarded
unfoldable pub discarded0 : List Call
discarded0 = flush_of 0 ∷ discard_call 0 ∷ []

-- opens the shams and what they are shown by, beside `everything`
unfoldable pub shams : ℕ
unfolding everything small unformatted flush_on collect_on defined made next nexts after always_unwritten flushed_unrecorded stores_no_record move_first collected_first moves_first_only refuses_flushes learn_first deeper looked_deeper counts_one_level_more new_device_full gain_uncounted marks_nothing refuses_discards flushed_marked leaves_mark looked_through counts_levels collected_marked copies_discarded answer_by both flush_of collection collected01 discarded0
shams = 0

-- what the shams answer
pub given : List Beside
given =
    both always_unwritten (flush_of 0 ∷ []) (lookup_call 0)
    ∷ both stores_no_record (flush_of 0 ∷ []) (lookup_call 0)
    ∷ both moves_first_only (flush_of 0 ∷ flush_of 1 ∷ []) collection
    ∷ both moves_first_only collected01 (lookup_call 0)
    ∷ both moves_first_only collected01 (lookup_call 1)
    ∷ both refuses_flushes [] (flush_of 0)
    ∷ both counts_one_level_more (flush_of 0 ∷ []) (lookup_call 0)
    ∷ both new_device_full [] (flush_of 0)
    ∷ both gain_uncounted (flush_of 0 ∷ flush_of 0 ∷ []) collection
    ∷ both marks_nothing (flush_of 0 ∷ []) (discard_call 0)
    ∷ both marks_nothing discarded0 (lookup_call 0)
    ∷ both refuses_discards (flush_of 0 ∷ []) (discard_call 0)
    ∷ both leaves_mark (discarded0 ++ (flush_of 0 ∷ [])) (lookup_call 0)
    ∷ both counts_levels discarded0 (lookup_call 0)
    ∷ both copies_discarded (discarded0 ++ (flush_of 1 ∷ [])) collection
    ∷ []

pub stated : List Beside
stated =
    -- "'Not written' to every lookup": of 0, after a flush of it
    beside (not_written 0) (found 0 0 1)
    -- "a flush that plans but stores no record": lookup of 0, after a flush of it
    ∷ beside (not_written 0) (found 0 0 1)
    -- "a collection that moves the first page and merely plans the rest": its own answer is the right one, and so is the lookup of 0,
    -- but that of 1, whose page it planned, is refused 7
    ∷ beside (collected 8 2 2) (collected 8 2 2)
    ∷ beside (found 8 8 1) (found 8 8 1)
    ∷ beside (refused not_named) (found 9 9 1)
    -- "a flush refused always": of 0, on a new device
    ∷ beside (refused no_free_block) (flushed 0 1)
    -- "A level count off by one": lookup of 0, after a flush of it
    ∷ beside (found 0 0 2) (found 0 0 1)
    -- "'no free block' on a new device": a flush of 0
    ∷ beside (refused no_free_block) (flushed 0 1)
    -- "'nothing to gain' before counting": a collection, after two flushes of 0
    ∷ beside (refused nothing_to_gain) (collected 8 1 2)
    -- a discard that says yes and marks nothing: its own answer is the right one, but 0 is found
    ∷ beside discarded discarded
    ∷ beside (found 0 0 1) (not_written 0)
    -- a discard refused always: of 0, after a flush of it
    ∷ beside (refused out_of_range) discarded
    -- a flush that leaves the mark: of 0, after it was discarded
    ∷ beside (not_written 0) (found 4 4 1)
    -- a lookup of a marked page with all its levels: of 0, after it was discarded
    ∷ beside (not_written 1) (not_written 0)
    -- a collection that still copies a discarded page: after 0 was discarded, and a flush of 1
    ∷ beside (collected 8 2 2) (collected 8 1 2)
    ∷ []

-- The shams' answers, computed.
pub answers : given ≡ stated
unfolding shams given stated
answers = refl

-- What the book, fed with a sham's answers, says: the last write to a logical page, and what a page carries.
pub record Booked : Type 0 where
  pub last : Option Arrival
  pub carried : Option Arrival

unfoldable pub booked : Way → List Call → (x p : ℕ) → Booked
booked w cs x p = record { last = last_write (after w cs).book x; carried = (after w cs).book.carried p }

-- both are the first arrival of this call
abbrev pub arrived : ℕ → Booked
arrived n = let w : Arrival = record { call = n; index = 0 } in record { last = some w; carried = some w }

-- By the book, the pages that the first three should have found, 0, 0 and 9, carry the last write.
pub carry_last : booked always_unwritten (flush_of 0 ∷ []) 0 0 ∷ booked stores_no_record (flush_of 0 ∷ []) 0 0 ∷ booked moves_first_only collected01 1 9 ∷ []
    ≡ arrived 1 ∷ arrived 1 ∷ arrived 2 ∷ []
unfolding shams booked
carry_last = refl

-- 0, 1 and 3 on pages 0 to 2 are a run of two pages and a run of one.
abbrev pub three_pages : List ℕ
three_pages = 0 ∷ 1 ∷ 3 ∷ []

-- the page that 3 is read back from, by records and the spare area that is left
unfoldable pub read_by3 : List Run → Option ℕ
read_by3 rs = reads_back small (program_block small three_pages 0 (replicate 12 7)) rs 3

-- By the first run's record alone it is not read back.
pub read_back : read_by3 (learn_first 0 0 three_pages) ∷ read_by3 (learn 0 0 three_pages) ∷ [] ≡ none ∷ some 2 ∷ []
unfolding shams read_at read_by reads_back read_by3
read_back = refl
