-- At each turn one slope takes all pages before place q.
use Rattle.std.proofs.Common.{◌-◌}
use Rattle.slopes.proofs.Following.{Followed}
use Rattle.slopes.proofs.reach.farthest.Given as goal

abbrev pub invariant-loop-q : goal.invariant-loop-q
invariant-loop-q l = Followed l.s l.a l.q l.suiting.low l.suiting.high

abbrev pub decreases-loop-q : goal.decreases-loop-q
decreases-loop-q l = l.s.end - l.q
