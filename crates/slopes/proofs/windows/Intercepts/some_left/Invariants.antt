-- At each turn it is known of the slopes before k.
use Rattle.std.proofs.Common.{◌≡◌, leb, get_or}
use Rattle.slopes.specs.Slopes.{some_of}
use Rattle.slopes.proofs.windows.Intercepts.some_left.Given as goal

abbrev pub invariant-loop-k : goal.invariant-loop-k
invariant-loop-k l = l.so ≡ some_of (λ j. leb (get_or l.self.low j 0) (get_or l.self.high j 0)) l.k
