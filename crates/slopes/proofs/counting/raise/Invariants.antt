-- At each turn k slopes have their new most and choice.
use Rattle.slopes.specs.Counting.{raised_most, raised_choice}
use Rattle.slopes.proofs.Stores.{Storing}
use Rattle.slopes.proofs.counting.raise.Given as goal

abbrev pub invariant-loop-k : goal.invariant-loop-k
invariant-loop-k l = record {
  most : Storing 0 (raised_most l.to l.c l.tally l.widths l.fn.most) l.fn.most l.most l.k;
  choice : Storing 0 (raised_choice l.to l.c l.tally l.widths l.fn.most l.fn.choice) l.fn.choice l.choice l.k;
}
