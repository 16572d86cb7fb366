-- What is left to tell makes the whole.
use Rattle.lookup.proofs.WhyLeft.{Left}
use Rattle.lookup.proofs.why.tell_slots.Given as goal

abbrev pub invariant-loop-i : goal.invariant-loop-i
invariant-loop-i l = Left l.b l.n l.o l.initial.out l.out l.k l.i
