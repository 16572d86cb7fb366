-- Document 01, 'Operations': compaction. Assumes nothing.
use Rattle.std.specs.Prelude.{List, [], ◌∷◌, ◌++◌, not, ℕ, leb, set}
use Rattle.model.specs.Device.{group_count}
use Rattle.model.specs.Levels.{record_count, compact}
use Rattle.model.specs.State.{State, group_at, with_groups}
use Rattle.model.specs.Sound.{sound_group}
use Rattle.calls.specs.Refusals.{Check, ◌when◌, not_sound, out_of_range, opening}
use Rattle.calls.specs.Outcome.{Lent, with_state, compacted, Outcome}

-- "4, no such group; 3, that group not sound"
abbrev pub group_checks : ℕ → State → List Check
group_checks k s =
    out_of_range when leb (group_count s.device) k
    ∷ not_sound when not (sound_group s.device.N k (group_at s k))
    ∷ []

-- "After 1 and 2: 4, .. 3, ..": it is lent no spare area.
unfoldable pub compact_checks : ℕ → Lent → List Check
compact_checks k x =
    let s : State = x.state in
    opening s ++ group_checks k s

-- group k compacted
unfoldable pub compact_group : ℕ → State → State
compact_group k s = with_groups (set s.groups k (compact (group_at s k))) s

-- "Compaction takes a group number and answers its records left."
unfoldable pub compact_done : ℕ → Lent → Outcome
compact_done k x = record { answer = compacted (record_count (compact (group_at x.state k))); after = with_state (compact_group k x.state) x }
