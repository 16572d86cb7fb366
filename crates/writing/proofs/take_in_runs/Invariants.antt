-- At the loop's head the runs before the place are taken in, and the place has its run's first page.
use Rattle.std.proofs.Common.{◌-◌}
use Rattle.front.specs.Read.{numbers_of}
use Rattle.state.specs.Reading.{read_state}
use Rattle.writing.specs.Handed.{Located}
use Rattle.writing.proofs.Passing.{TakenIn}
use Rattle.writing.proofs.take_in_runs.Given as goal

abbrev pub invariant-loop-p : goal.invariant-loop-p
invariant-loop-p l = record {
  located : Located l.written l.taken l.n l.p;
  so : TakenIn (numbers_of l.d) l.written l.out l.taken l.n (read_state l.fn.state) (read_state l.state) l.p.run;
}

abbrev pub decreases-loop-p : goal.decreases-loop-p
decreases-loop-p l = l.n - l.p.run
