-- At each turn k bytes of the row stand.
use Rattle.std.proofs.Common.{◌+◌, get_or}
use Rattle.slopes.specs.Counting.{above}
use Rattle.slopes.proofs.Stores.{Storing}
use Rattle.slopes.proofs.counting.right_row.Given as goal

abbrev pub invariant-loop-k : goal.invariant-loop-k
invariant-loop-k l = Storing l.at (λ j. above (l.a + j) l.o l.q (get_or l.low j 0)) l.fn.rows l.rows l.k
