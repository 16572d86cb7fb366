-- `offsets_in` meets its contract: it is written as the definition.
use native.Mathlib.Omega.{arith}
use Rattle.group.specs.Checking.{offsets_in}
use Rattle.group.proofs.offsets_in.Goals as goal

pub returns : goal.returns
unfolding offsets_in
returns c = (omega arith, omega arith)
