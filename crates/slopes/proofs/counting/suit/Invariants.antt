-- At each turn the intercepts are those of the pages before place q.
use Rattle.std.proofs.Common.{◌-◌, ◌≤◌, ◌<◌}
use Rattle.slopes.specs.Slopes.{Windows}
use Rattle.slopes.proofs.counting.suit.Given as goal

abbrev pub invariant-loop-q : goal.invariant-loop-q
invariant-loop-q l = record {
  past : l.s.place < l.q;
  to : l.q ≤ l.end;
  suits : Windows l.s.g l.s.written.now l.a l.s.place (l.q - 1 - l.s.place) l.suiting.low l.suiting.high;
}

abbrev pub decreases-loop-q : goal.decreases-loop-q
decreases-loop-q l = l.end - l.q
