-- `last`: the numbers after o fail the test, whatever it is that the closure tells.
use Rattle.std.proofs.Common.{Bool, ℕ, ◌≡◌, ◌-◌, ◌%◌, ◌≤◌}
use Rattle.record.specs.Scan.{FailedAfter, Tells}
use Rattle.record.proofs.last.Given as goal

abbrev pub invariant-loop-o : goal.invariant-loop-o
invariant-loop-o g l = record {
  low : l.f ≤ l.o;
  high : l.o ≤ l.e;
  step : (l.o - l.f) % l.d ≡ 0;
  failed : (t : ℕ → Bool) → Tells (goal.F-post g l.test) t l.f l.e → FailedAfter t l.f l.d l.e l.o;
}

abbrev pub decreases-loop-o : goal.decreases-loop-o
decreases-loop-o g l = l.o
