-- At each turn the owners of the offsets before o are noted.
use Rattle.insertion.proofs.Noting.{Tallied}
use Rattle.insertion.proofs.note_losers.Given as goal

abbrev pub invariant-loop-o : goal.invariant-loop-o
invariant-loop-o l = Tallied l.b l.mask l.losers l.start l.any l.o
