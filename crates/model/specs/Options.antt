-- The code's `Option` as the definitions' one. Assumes nothing.
use Rattle.std.specs.Prelude as code
use Rattle.std.proofs.Math.Option.{Option, none, some}

unfoldable pub as_option : {A : Type 0} → code.Option A → Option A
as_option code.None = none
as_option (code.Some x) = some x
