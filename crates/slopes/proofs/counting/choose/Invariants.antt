-- At each turn the intercepts below c were looked at.
use Rattle.slopes.proofs.Choices.{Choosing}
use Rattle.slopes.proofs.counting.choose.Given as goal

abbrev pub invariant-loop-c : goal.invariant-loop-c
invariant-loop-c l = Choosing l.tally l.widths l.most l.choice l.c
