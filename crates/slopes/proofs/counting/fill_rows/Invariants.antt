-- At each turn j rows stand.
use Rattle.std.proofs.Common.{◌+◌, get_or}
use Rattle.slopes.specs.Counting.{above_at}
use Rattle.slopes.proofs.Stores.{Blocks}
use Rattle.slopes.proofs.counting.fill_rows.Given as goal

abbrev pub invariant-loop-j : goal.invariant-loop-j
invariant-loop-j l = Blocks (λ i k. above_at l.s.written.now (l.a + k) (l.s.place + (l.m + i)) (get_or l.low k 0)) l.fn.rows l.rows l.j
