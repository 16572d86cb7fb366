-- At each turn those of the first held offsets that go astray are listed.
use Rattle.front.specs.Read.{numbers_of}
use Rattle.lookup.proofs.Picking.{AstraySo}
use Rattle.lookup.proofs.astray.list_astray.Given as goal

abbrev pub invariant-loop-o : goal.invariant-loop-o
invariant-loop-o l = AstraySo (numbers_of l.a.d) l.a.spare.now (numbers_of l.b.d) l.b.spare.now l.x l.forecasts l.held l.end l.list l.n l.o-index
