-- At each turn no slope before `next` takes more than the longest so far.
use Rattle.std.proofs.Common.{◌-◌}
use Rattle.slopes.proofs.SearchLonger.{Searched}
use Rattle.slopes.proofs.reach.longest_of.Given as goal

abbrev pub invariant-loop-next : goal.invariant-loop-next
invariant-loop-next l = Searched l.s l.n l.size l.w.first l.w.last l.next

abbrev pub decreases-loop-next : goal.decreases-loop-next
decreases-loop-next l = 256 - l.next
