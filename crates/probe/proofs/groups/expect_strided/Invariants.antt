-- At each turn the mask has the offsets of the stride before o.
use Rattle.std.proofs.Common.{◌+◌, ◌-◌}
use Rattle.probe.proofs.Filling.{Striding}
use Rattle.probe.proofs.groups.expect_strided.Given as goal

abbrev pub invariant-loop-o : goal.invariant-loop-o
invariant-loop-o l = Striding l.s l.d l.e l.expected l.o

abbrev pub decreases-loop-o : goal.decreases-loop-o
decreases-loop-o l = l.e + 1 - l.o
