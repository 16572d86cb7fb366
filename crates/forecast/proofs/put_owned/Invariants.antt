-- At each turn the offsets before o that the record owns have their numbers.
use Rattle.group.specs.Layout.{owner_of}
use Rattle.forecast.proofs.Entering.{OwnedSo}
use Rattle.forecast.proofs.put_owned.Given as goal

abbrev pub invariant-loop-o : goal.invariant-loop-o
invariant-loop-o l = OwnedSo (owner_of l.b) l.s l.e l.k l.first l.fn.forecasts l.forecasts l.up l.o
