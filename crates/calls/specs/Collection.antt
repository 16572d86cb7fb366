-- Document 01, 'Operations': collection. Assumes nothing.
use Rattle.std.specs.Prelude.{List, [], ◌∷◌, ◌++◌, Bool, false, not, ◌&&◌, ℕ, ltb, eqb, length, set}
use Rattle.model.specs.Lists.{store}
use Rattle.model.specs.Spare.{middle, erase}
use Rattle.model.specs.Learning.{Write}
use Rattle.model.specs.State.{State, with_counts, free_blocks, lowest_free}
use Rattle.model.specs.Sound.{sound_state, is_empty}
use Rattle.calls.specs.Refusals.{Check, ◌when◌, bad_length, not_sound, no_free_block, nothing_to_gain, wrong_length, opening_with}
use Rattle.calls.specs.Outcome.{Lent, with_state, with_spare, with_erased, collected, Outcome}
use Rattle.calls.specs.Flush.{write_block}
use Rattle.calls.specs.Choice.{Used, used_by, victims_by, moves_by, blocks_of, first_of, no_gain}
use Rattle.calls.specs.Lookup.{Looked, at, nowhere, unnamed, seek}

-- a lookup gives this page; one that would refuse gives none
unfoldable pub gives : ℕ → Looked → Bool
gives p (at q predicted n) = eqb p q
gives p (nowhere n) = false
gives p unnamed = false

-- "a page is valid if its middle entry is below N and lookup of that gives this page"
unfoldable pub valid : State → List ℕ → ℕ → Bool
valid s spare p = ltb (middle s.device spare p) s.device.N && gives p (seek s spare (middle s.device spare p))

-- the used blocks with these valid pages, those that are taken, and what is moved
abbrev pub used_block : State → List ℕ → ℕ → Used
used_block s spare = used_by (valid s spare) s.device

abbrev pub victims : State → List ℕ → List Used
victims s spare = victims_by (valid s spare) s.device s.counts

abbrev pub moves : State → List ℕ → List Write
moves s spare = moves_by (middle s.device spare) (victims s spare)

-- "After 1 and 2: 3": before any counting; a plan of B entries, "a second list (M entries)"
abbrev pub admit_checks : Lent → List Check
admit_checks x =
    opening_with x.state x.spare
    ++ (bad_length when wrong_length x.plan x.state.device.B
    ∷ bad_length when wrong_length x.erased x.state.device.M
    ∷ not_sound when not (sound_state x.state)
    ∷ [])

-- "8 ..; 6, a free block is needed and none exists" ("none is needed for total 0")
unfoldable pub collect_checks : Lent → List Check
collect_checks x =
    admit_checks x
    ++ (nothing_to_gain when no_gain (victims x.state x.spare)
    ∷ no_free_block when (not (is_empty (moves x.state x.spare)) && is_empty (free_blocks 0 x.state.counts))
    ∷ [])

-- "on the lowest-numbered free block (none is needed for total 0) and learned"
unfoldable pub move_all : List Write → Lent → Lent
move_all [] x = x
move_all (w ∷ ws) x = write_block (w ∷ ws) (lowest_free x.state) x

-- "then the taken blocks are erased": their entries, and their counts
unfoldable pub erase_block : ℕ → Lent → Lent
erase_block k x = with_spare (erase x.state.device k x.spare) (with_state (with_counts (set x.state.counts k 0) x.state) x)

unfoldable pub erase_blocks : List ℕ → Lent → Lent
erase_blocks [] x = x
erase_blocks (k ∷ ks) x = erase_blocks ks (erase_block k x)

-- "a second list (M entries) the erased blocks in order; unused entries stay"
unfoldable pub list_erased : List ℕ → Lent → Lent
list_erased ks x = with_erased (store x.erased 0 ks) x

abbrev pub first_moved : List Write → State → ℕ
first_moved ws s = first_of ws s.device s.counts

-- "It answers first page (0 if count is 0), count and number erased; the plan gets source pages"
unfoldable pub collect_done : Lent → Outcome
collect_done x =
    let ks : List ℕ = blocks_of (victims x.state x.spare) in
    let ws : List Write = moves x.state x.spare in
    record {
      answer = collected (first_moved ws x.state) (length ws) (length ks);
      after = list_erased ks (erase_blocks ks (move_all ws x));
    }
