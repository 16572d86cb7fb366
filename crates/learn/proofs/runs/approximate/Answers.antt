-- `approximate` meets its contract.
use Rattle.std.proofs.Common.{arith, refl}
use Rattle.learn.proofs.Choosing.{fit_record_lem}
use Rattle.learn.proofs.Differences.{less}
use Rattle.learn.proofs.runs.approximate.Goals as goal

pub returns : goal.returns
returns c = (fit_record_lem _ _ _ _ (less _ 256 c.requires.4 (omega arith)), refl)
