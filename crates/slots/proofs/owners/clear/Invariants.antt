-- At each turn the offsets before o have no owner.
use Rattle.group.specs.Layout.{offsets}
use Rattle.slots.proofs.OwnerPasses.{Passing}
use Rattle.slots.proofs.owners.clear.Given as goal

abbrev pub invariant-loop-o : goal.invariant-loop-o
invariant-loop-o l = Passing (λ k w. 0) l.fn.b l.b 0 offsets l.o
