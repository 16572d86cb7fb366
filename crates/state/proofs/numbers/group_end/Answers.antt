-- Its place and its length.
use native.Mathlib.Omega.{arith}
use mathlib.Core.Path.{ap}
use Prim.Native.Nat.{ℕ, ◌+◌}
use Rattle.model.specs.Device.{group_length}
use Rattle.state.proofs.Places.{group-small}
use Rattle.state.proofs.numbers.group_end.Goals as goal

pub overflow_add-result : goal.overflow_add-result
overflow_add-result c = omega (arith, group-small _ _ c.args.d.limits c.requires, c.group_place.ensures)

pub returns : goal.returns
unfolding group_length
returns c = ap (λ (p : ℕ). p + 5636) c.group_place.ensures
