-- The name is taken up to offset o, and from there on it is left to take.
use Rattle.std.proofs.Common.{◌≡◌, suc, ◌+◌, ◌-◌}
use Rattle.group.specs.Checking.{without}
use Rattle.group.proofs.take.Given as goal

abbrev pub invariant-loop-o : goal.invariant-loop-o
invariant-loop-o l = without l.name (suc (l.last - l.first)) l.first l.fn.owners ≡ without l.name (l.last + 1 - l.o) l.o l.owners
