-- The end of the runs from the one that is looked at on is the end sought.
use Rattle.std.proofs.Common.{◌≡◌, ◌-◌}
use Rattle.writing.specs.Handed.{first_place, end_from, runs_end}
use Rattle.writing.proofs.end_of.Given as goal

abbrev pub invariant-loop-run : goal.invariant-loop-run
invariant-loop-run l = record {
  page : l.page ≡ first_place l.taken l.run;
  end : end_from l.written l.taken l.k l.run (l.n - l.run) ≡ runs_end l.written l.taken l.n l.fn.p.run;
}
