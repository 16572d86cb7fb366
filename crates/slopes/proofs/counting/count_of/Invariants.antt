-- At each turn k slopes have their new counts.
use Rattle.std.proofs.Common.{◌+◌, get_or}
use Rattle.slopes.specs.Counting.{hits}
use Rattle.slopes.proofs.Stores.{Storing}
use Rattle.slopes.proofs.counting.count_of.Given as goal

abbrev pub invariant-loop-k : goal.invariant-loop-k
invariant-loop-k l = Storing l.to (λ j. get_or l.fn.tally (l.to + j) 0 + hits l.rows l.c j) l.fn.tally l.tally l.k
