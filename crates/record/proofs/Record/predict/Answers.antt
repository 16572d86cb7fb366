-- `predict` meets its contract: the intercept and the rise have 32 bits, and their sum 64.
use Rattle.std.proofs.Common.{arith}
use Rattle.std.proofs.lemmas.Int.{ints}
use Rattle.model.specs.Record.{predict}
use Rattle.record.proofs.Record.predict.Goals as goal

pub returns : goal.returns
unfolding predict
returns c = λ L. let up = c.rise.ensures L in omega (arith, ints, up)
