-- The quotient rounded up.
use Rattle.std.proofs.Common.{arith}
use Rattle.model.specs.Device.{marks_count}
use Rattle.state.proofs.numbers.marks_count.Goals as goal

pub returns : goal.returns
unfolding marks_count
returns c = omega (arith, c.div_ceil.ensures)
