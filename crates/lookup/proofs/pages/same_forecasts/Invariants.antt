-- At each turn the flag says whether the numbers before o are the same.
use Rattle.lookup.specs.Passes.{SameBelow}
use Rattle.lookup.proofs.pages.same_forecasts.Given as goal

abbrev pub invariant-loop-o : goal.invariant-loop-o
invariant-loop-o l = SameBelow l.first l.second l.o l.same
