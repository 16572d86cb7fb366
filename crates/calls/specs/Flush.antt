-- Document 01, 'Operations': flush; document 02, a: the marks that it clears. Assumes nothing.
use Rattle.std.specs.Prelude.{List, [], ◌∷◌, ◌++◌, not, ◌||◌, ℕ, ltb, length, set}
use Rattle.model.specs.Lists.{all, store}
use Rattle.model.specs.Device.{Device, first_page}
use Rattle.model.specs.Spare.{program_block}
use Rattle.model.specs.Learning.{Write, sorted, logicals, sources, learn}
use Rattle.model.specs.Levels.{take_in_all}
use Rattle.model.specs.Marks.{unmark_all}
use Rattle.model.specs.State.{State, with_counts, with_marks, with_groups, free_blocks, lowest_free}
use Rattle.model.specs.Sound.{sound_state, is_empty}
use Rattle.calls.specs.Refusals.{Check, ◌when◌, bad_length, not_sound, out_of_range, bad_batch, no_free_block, wrong_length, opening_with}
use Rattle.calls.specs.Outcome.{Lent, with_state, with_spare, with_plan, Outcome, flushed}

-- "After 1 and 2: 3, state not sound; 5, batch empty or longer than B; 4, a logical page is N or more; 6, fewer than two
-- free blocks."
unfoldable pub flush_checks : List ℕ → Lent → List Check
flush_checks batch x =
    let s : State = x.state in
    let d : Device = s.device in
    opening_with s x.spare
    ++ (bad_length when wrong_length x.plan d.B
    ∷ not_sound when not (sound_state s)
    ∷ bad_batch when (is_empty batch || ltb d.B (length batch))
    ∷ out_of_range when not (all (λ y. ltb y d.N) batch)
    ∷ no_free_block when ltb (length (free_blocks 0 s.counts)) 2
    ∷ [])

-- Block k takes the writes, which ascend by logical page, from its first page on: its count, the learned records, the spare
-- entries; the plan gets the sources, "later entries stay".
unfoldable pub write_state : List Write → ℕ → State → State
write_state ws k s =
    with_groups (take_in_all 0 (learn s.device.g (first_page s.device k) (logicals ws)) s.groups)
    (with_counts (set s.counts k (length ws)) s)

unfoldable pub write_block : List Write → ℕ → Lent → Lent
write_block ws k x =
    with_plan (store x.plan 0 (sources ws))
    (with_spare (program_block x.state.device (logicals ws) k x.spare)
    (with_state (write_state ws k x.state) x))

-- discarded "until a flush writes it again": the marks of the batch's logical pages are cleared
unfoldable pub clear_marks : List ℕ → State → State
clear_marks batch s = with_marks (unmark_all batch s.marks) s

-- "It answers first page and count, and writes into a plan .. for each page written, the arrival index": "from the start of
-- the lowest-numbered free block"
unfoldable pub flush_done : List ℕ → Lent → Outcome
flush_done batch x =
    let k : ℕ = lowest_free x.state in
    let ws : List Write = sorted batch in
    record {
      answer = flushed (first_page x.state.device k) (length ws);
      after = write_block ws k (with_state (clear_marks batch x.state) x);
    }
