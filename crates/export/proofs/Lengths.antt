-- A length by the test of the limits. Assumes nothing.
use mathlib.Core.Path.{◌≡◌}
use mathlib.Core.Bool.{true, false}
use Prim.Native.Nat.{ℕ}
use Rattle.model.specs.Device.{Device, within_limits}
use Rattle.export.specs.Packing.{where_within}

-- Within the limits it is the length.
pub within : (d : Device) (r n : ℕ) → within_limits d ≡ true → r ≡ n → r ≡ where_within d n
unfolding where_within
within d r n e h = rw (e, where_within) h

-- Outside them it is 0.
pub outside : (d : Device) (n : ℕ) → within_limits d ≡ false → 0 ≡ where_within d n
unfolding where_within
outside d n e = rw (e, where_within)
