-- At each turn the fit is the best of the slopes below `next`.
use Rattle.std.proofs.Common.{◌≡◌, min}
use Rattle.slopes.specs.Slopes.{bettered}
use Rattle.slopes.specs.Counting.{as_fit, no_fit}
use Rattle.slopes.proofs.counting.best.Given as goal

abbrev pub invariant-loop-next : goal.invariant-loop-next
invariant-loop-next l = as_fit l.f ≡ bettered l.s.g l.s.written.now l.s.place (no_fit l.size) 0 (min l.next 256)
