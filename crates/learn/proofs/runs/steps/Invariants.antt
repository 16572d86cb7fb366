-- At each turn l pages were compared.
use Rattle.std.proofs.Common.{◌≡◌, ◌+◌, true}
use Rattle.learn.specs.Runs.{Strides}
use Rattle.learn.proofs.runs.steps.Given as goal

abbrev pub invariant-loop-l : goal.invariant-loop-l
invariant-loop-l l = l.so ≡ true → Strides l.written l.d l.j (l.j + l.l)
