-- At each turn the table says what a search from slot i on comes to.
use Rattle.std.proofs.Common.{◌≤◌}
use Rattle.forecast.proofs.Foretelling.{SaysFrom}
use Rattle.forecast.proofs.foretell.Given as goal

abbrev pub invariant-loop-i : goal.invariant-loop-i
invariant-loop-i l = record {
  few : l.m ≤ 512;
  says : SaysFrom l.b l.forecasts l.m l.i;
}
