-- At each turn m pages were counted.
use Rattle.slopes.proofs.Tallies.{Tallied}
use Rattle.slopes.proofs.counting.count.Given as goal

abbrev pub invariant-loop-m : goal.invariant-loop-m
invariant-loop-m l = Tallied l.s.written.now l.a l.s.place l.size l.low l.top l.tally l.m
