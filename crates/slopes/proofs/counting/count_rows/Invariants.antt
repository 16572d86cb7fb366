-- At each turn the intercepts below c were counted.
use Rattle.std.proofs.Common.{◌+◌, ◌*◌, get_or}
use Rattle.slopes.specs.Counting.{hits}
use Rattle.slopes.proofs.Stores.{Blocks}
use Rattle.slopes.proofs.counting.count_rows.Given as goal

abbrev pub invariant-loop-c : goal.invariant-loop-c
invariant-loop-c l = Blocks (λ i k. get_or l.fn.tally (32 * i + k) 0 + hits l.rows i k) l.fn.tally l.tally l.c
