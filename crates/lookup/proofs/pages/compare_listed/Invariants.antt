-- The listed offsets before the next one are named in both, and the flag says whether they are alike.
use Rattle.std.proofs.Common.{ℕ}
use Rattle.calls.specs.Lookup.{Looked}
use Rattle.front.specs.Read.{numbers_of}
use Rattle.lookup.specs.Agreeing.{ToldFrom, Left}
use Rattle.lookup.proofs.Told.{ToldSo}
use Rattle.lookup.proofs.pages.compare_listed.Given as goal

abbrev pub invariant-loop-o : goal.invariant-loop-o
invariant-loop-o l = (p q : ℕ → Looked) (m : ℕ) → ToldFrom (numbers_of l.a.d) l.a.spare.now p l.x m l.forecasts → ToldFrom (numbers_of l.b.d) l.b.spare.now q l.x m l.forecasts
    → Left p q l.x m l.list l.n → ToldSo p q l.x m l.list l.o-index l.same
