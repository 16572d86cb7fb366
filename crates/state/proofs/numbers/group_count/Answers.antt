-- The quotient rounded up.
use Rattle.std.proofs.Common.{arith}
use Rattle.model.specs.Device.{group_count}
use Rattle.state.proofs.numbers.group_count.Goals as goal

pub returns : goal.returns
unfolding group_count
returns c = omega (arith, c.div_ceil.ensures)
