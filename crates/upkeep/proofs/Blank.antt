-- A state with the device numbers at its start, each count 0, no page marked and each group empty is the blank one. Assumes nothing.
use mathlib.Core.Path.{◌≡◌, ap, ◌∙◌}
use mathlib.Core.List.{List, []}
use mathlib.Core.Bool.{true}
use Prim.Native.Nat.{ℕ}
use native.Mathlib.Omega.{arith}
use lib.ListN.{length, replicate}
use Rattle.calls.specs.Format.{blank_state}
use Rattle.model.specs.Lists.{store}
use Rattle.model.specs.Device.{Device, within_limits, group_count, marks_count, head_length, state_length}
use Rattle.model.specs.State.{with_counts, with_marks, with_groups}
use Rattle.model.proofs.Lists.{length-store}
use Rattle.front.specs.Formatting.{head_of}
use Rattle.front.proofs.HeadBytes.{head_stored}
use Rattle.state.specs.Reading.{read_state}
use Rattle.state.specs.Shaped.{Shaped}
use Rattle.state.proofs.Places.{head_inside}

-- the device numbers were stored at the start of bytes of their length
module _ (d : Device) (s t : List ℕ) (within : within_limits d ≡ true) (long : length s ≡ state_length d) (head : t ≡ store s 0 (head_of d)) where
  pub head_shape : Shaped d (read_state t)
  unfolding read_state head_length
  head_shape = record {
    numbers = rw head (head_stored d s within (omega (arith, head_inside d)));
    limits = within;
    long = rw head (length-store s 0 (head_of d) ∙ long);
  }

  pub blank-read : (u v w : List ℕ) → read_state u ≡ with_counts (replicate d.M 0) (read_state t)
      → read_state v ≡ with_marks (replicate (marks_count d) 0) (read_state u) → read_state w ≡ with_groups (replicate (group_count d) []) (read_state v)
      → read_state w ≡ blank_state d
  unfolding blank_state with_counts with_marks with_groups
  blank-read u v w counts marks groups =
      groups
      ∙ ap (with_groups (replicate (group_count d) [])) (marks ∙ ap (with_marks (replicate (marks_count d) 0)) counts)
      ∙ rw (head_shape.numbers, head_shape.long)
