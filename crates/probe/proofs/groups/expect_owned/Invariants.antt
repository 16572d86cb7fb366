-- At each turn the mask has the record's own offsets before o.
use Rattle.probe.specs.Groups.{masked_in}
use Rattle.probe.proofs.Filling.{Filling}
use Rattle.probe.proofs.groups.expect_owned.Given as goal

abbrev pub invariant-loop-o : goal.invariant-loop-o
invariant-loop-o l = Filling (masked_in l.mask l.s l.e) l.expected l.o
