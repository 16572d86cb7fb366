-- At each turn k widths stand, and none is above `top`.
use Rattle.std.proofs.Common.{get_or}
use Rattle.slopes.specs.Counting.{width_of}
use Rattle.slopes.proofs.Stores.{Storing}
use Rattle.slopes.proofs.WidthsFound.{Topped}
use Rattle.slopes.proofs.counting.find_widths.Given as goal

abbrev pub invariant-loop-k : goal.invariant-loop-k
invariant-loop-k l = record {
  widths : Storing 0 (λ k. width_of l.g (get_or l.suiting.low k 0) (get_or l.suiting.high k 0)) l.fn.widths l.widths l.k;
  top : Topped (λ k. width_of l.g (get_or l.suiting.low k 0) (get_or l.suiting.high k 0)) l.top l.k;
}
