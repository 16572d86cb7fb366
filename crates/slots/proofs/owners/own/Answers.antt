-- `own` meets its contract: owners are read, and the pass over the range names those of the mask.
use native.Mathlib.Omega.{arith}
use Rattle.slots.proofs.OwnerPasses.{given-shows}
use Rattle.slots.proofs.owners.own.Goals as goal

pub returns : goal.returns
returns c = given-shows _ _ _ c.args.mask.now _ _ c.open_owners.ensures.0 c.own_from.ensures
    (λ o h e. let range = c.requires.3 o h e in (range.0, omega (arith, range.1)))
