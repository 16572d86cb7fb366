-- At each turn one slope takes all pages before place q.
use Rattle.slopes.proofs.Following.{Followed}
use Rattle.slopes.proofs.reach.within_line.Given as goal

abbrev pub invariant-loop-q : goal.invariant-loop-q
invariant-loop-q l = Followed l.s l.a l.q l.suiting.low l.suiting.high
