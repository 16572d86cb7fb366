-- The test holds just before `low`, and fails at `high`.
use Rattle.std.proofs.Common.{Bool, ℕ, ◌≤◌, ◌-◌}
use Rattle.insertion.specs.Searches.{Told, Border}
use Rattle.insertion.proofs.border.Given as goal

abbrev pub invariant-loop-low : goal.invariant-loop-low
invariant-loop-low g l = record {
  inside : l.high ≤ l.n;
  turns : (t : ℕ → Bool) → Told (goal.F-post g l.test) t l.n → Border t l.n l.low l.high;
}

abbrev pub decreases-loop-low : goal.decreases-loop-low
decreases-loop-low g l = l.high - l.low
