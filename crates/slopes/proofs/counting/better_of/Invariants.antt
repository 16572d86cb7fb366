-- At each turn the fit is the better of the first and the k slopes before.
use Rattle.slopes.specs.Counting.{as_fit}
use Rattle.slopes.proofs.Betters.{Compared}
use Rattle.slopes.proofs.counting.better_of.Given as goal

abbrev pub invariant-loop-k : goal.invariant-loop-k
invariant-loop-k l = Compared l.n l.a l.low l.widths l.most l.choice (as_fit l.initial.best) (as_fit l.best) l.k
