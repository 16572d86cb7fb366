-- At each turn the offsets before o that a record holds are listed.
use Rattle.std.proofs.Common.{◌≡◌, ◌%◌, get_or}
use Rattle.forecast.specs.Forecast.{level_unit}
use Rattle.lookup.specs.Agreeing.{Picked}
use Rattle.lookup.proofs.astray.list_held.Given as goal

abbrev pub invariant-loop-o : goal.invariant-loop-o
invariant-loop-o l = Picked (λ v. get_or l.forecasts v 0 % level_unit ≡ 0) (λ j. j) l.o l.list l.n
