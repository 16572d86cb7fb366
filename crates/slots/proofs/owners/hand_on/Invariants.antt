-- At each turn the offsets before o have their new owners.
use Rattle.record.specs.Scan.{masked}
use Rattle.slots.specs.Owners.{handed_on}
use Rattle.slots.proofs.OwnerPasses.{Passing}
use Rattle.slots.proofs.owners.hand_on.Given as goal

abbrev pub invariant-loop-o : goal.invariant-loop-o
invariant-loop-o l = Passing (λ k w. handed_on l.start (masked l.taken k) l.to w) l.fn.b l.b l.start l.end l.o
