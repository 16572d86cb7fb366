-- At each turn the offsets of the stride before o have their numbers, and f is that of o.
use Rattle.std.proofs.Common.{◌+◌, ◌-◌}
use Rattle.forecast.proofs.Entering.{StridedSo}
use Rattle.forecast.proofs.put_strided.Given as goal

abbrev pub invariant-loop-o : goal.invariant-loop-o
invariant-loop-o l = StridedSo l.s l.d l.e l.first l.fn.forecasts l.forecasts l.f l.o

abbrev pub decreases-loop-o : goal.decreases-loop-o
decreases-loop-o l = l.e + 1 - l.o
