-- At each turn the first n runs' records and numbers of pages are stored, up to place i, and what is left makes the whole.
use Rattle.std.proofs.Common.{length, ◌-◌}
use Rattle.model.specs.Demand2.{bounds_of}
use Rattle.learn.proofs.Storing.{Stored, Listed}
use Rattle.learn.proofs.runs.learn.Given as goal

abbrev pub invariant-loop-i : goal.invariant-loop-i
invariant-loop-i l = record {
  numbers : Stored (bounds_of l.g l.first l.written) l.written l.fn.taken l.taken l.i l.n;
  listed : Listed (bounds_of l.g l.first l.written) l.written l.fn.out l.out l.i l.n;
}

abbrev pub decreases-loop-i : goal.decreases-loop-i
decreases-loop-i l = length l.written - l.i
