-- At each turn the offsets before o have their new owners.
use Rattle.record.specs.Scan.{masked}
use Rattle.slots.specs.Owners.{taken_by}
use Rattle.slots.proofs.OwnerPasses.{Passing}
use Rattle.slots.proofs.owners.own_from.Given as goal

abbrev pub invariant-loop-o : goal.invariant-loop-o
invariant-loop-o l = Passing (λ k w. taken_by l.start (masked l.mask k) w) l.fn.b l.b l.start l.end l.o
