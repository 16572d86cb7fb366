-- `first`: the numbers before o fail the test, whatever it is that the closure tells.
use Rattle.std.proofs.Common.{Bool, ℕ, ◌+◌, ◌-◌, ◌≤◌}
use Rattle.record.specs.Scan.{Failed, Tells}
use Rattle.record.proofs.first.Given as goal

abbrev pub invariant-loop-o : goal.invariant-loop-o
invariant-loop-o g l = record { low : l.s ≤ l.o; failed : (t : ℕ → Bool) → Tells (goal.F-post g l.test) t l.s l.e → Failed t l.s l.d l.o }

abbrev pub decreases-loop-o : goal.decreases-loop-o
decreases-loop-o g l = l.e + 1 - l.o
