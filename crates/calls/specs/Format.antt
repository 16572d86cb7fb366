-- Document 01, 'Operations': format; document 02, a: its marks. Assumes nothing.
use Rattle.std.specs.Prelude.{List, [], ◌∷◌, not, eqb, replicate}
use Rattle.model.specs.Device.{Device, within_limits, marks_count, group_count, spare_length, state_length}
use Rattle.model.specs.Spare.{nobody}
use Rattle.model.specs.State.{State}
use Rattle.calls.specs.Refusals.{Check, ◌when◌, bad_numbers, bad_length, wrong_length}
use Rattle.calls.specs.Outcome.{Lent, with_state, with_spare, Outcome, formatted}

-- "It refuses 1 when a device number is outside its limits, then 2 when state or spare area hasn't exactly the length these
-- numbers give."
unfoldable pub format_checks : Device → Lent → List Check
format_checks d x =
    bad_numbers when not (within_limits d)
    ∷ bad_length when not (eqb x.state.bytes (state_length d))
    ∷ bad_length when wrong_length x.spare (spare_length d)
    ∷ []

-- "Format writes M, B, N, g, frees all blocks, empties all groups and fills every spare entry with 4,294,967,295." "A format clears
-- all marks."
unfoldable pub blank_state : Device → State
blank_state d = record {
  bytes = state_length d;
  device = d;
  counts = replicate d.M 0;
  marks = replicate (marks_count d) 0;
  groups = replicate (group_count d) [];
}

unfoldable pub format_done : Device → Lent → Outcome
format_done d x = record { answer = formatted; after = with_spare (replicate (spare_length d) nobody) (with_state (blank_state d) x) }
