-- A state with the device numbers at its start, each count 0 and each entry 4,294,967,295 is the blank one. Assumes nothing.
use mathlib.Core.Path.{◌≡◌, ap, ◌∙◌}
use mathlib.Core.List.{List}
use mathlib.Core.Bool.{true}
use Prim.Native.Nat.{ℕ}
use native.Mathlib.Omega.{arith}
use lib.ListN.{length, replicate}
use Rattle.model.specs.Lists.{store}
use Rattle.model.specs.Device.{Device, within_limits}
use Rattle.model.proofs.Lists.{length-store}
use Rattle.plain.specs.Table.{with_counts, with_entries, table_length, no_page}
use Rattle.plain.specs.Calls.{blank_table}
use Rattle.front.specs.Formatting.{head_of}
use Rattle.front.proofs.HeadBytes.{head_stored}
use Rattle.plainstate.specs.Reading.{read_table}
use Rattle.plainstate.specs.Shaped.{Shaped}
use Rattle.plainstate.proofs.Sizes.{end_at}

-- the device numbers were stored at the start of bytes of their length
module _ (d : Device) (s t : List ℕ) (within : within_limits d ≡ true) (long : length s ≡ table_length d) (head : t ≡ store s 0 (head_of d)) where
  pub head_shape : Shaped d (read_table t)
  unfolding read_table
  head_shape = record {
    numbers = rw head (head_stored d s within (omega (arith, long, end_at d)));
    limits = within;
    long = rw head (length-store s 0 (head_of d) ∙ long);
  }

  pub blank-read : (u v : List ℕ) → read_table u ≡ with_counts (replicate d.M 0) (read_table t) → read_table v ≡ with_entries (replicate d.N no_page) (read_table u)
      → read_table v ≡ blank_table d
  unfolding blank_table
  blank-read u v counts entries = entries ∙ ap (with_entries (replicate d.N no_page)) counts ∙ rw (head_shape.numbers, head_shape.long)
