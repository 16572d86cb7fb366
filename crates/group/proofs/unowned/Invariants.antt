-- All owners are 0 where those up to offset w-index, taken together, are 0 and those from there on are.
use Rattle.std.proofs.Common.{◌≡◌, ◌-◌}
use mathlib.Core.Bool.{◌&&◌}
use lib.Dec.{eqb}
use lib.ListN.{get_or}
use Rattle.group.specs.Reading.{every_from}
use Rattle.group.specs.Checking.{unowned}
use Rattle.group.proofs.unowned.Given as goal

abbrev pub invariant-loop-w : goal.invariant-loop-w
invariant-loop-w l = unowned l.owners ≡ (eqb l.any 0 && every_from (λ x. eqb (get_or l.owners x 0) 0) (256 - l.w-index) l.w-index)
