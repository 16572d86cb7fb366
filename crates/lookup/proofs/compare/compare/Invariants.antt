-- The lookups of every page before the next group are named in both states, and the flag says whether they are alike.
use Rattle.std.proofs.Common.{◌≡◌, ◌*◌, min, length}
use Rattle.state.specs.Reading.{read_state}
use Rattle.lookup.proofs.Agreeing.{Compared}
use Rattle.lookup.proofs.compare.compare.Given as goal

abbrev pub invariant-loop-k : goal.invariant-loop-k
invariant-loop-k l = record {
  told : Compared (read_state l.a.state.now) l.a.spare.now (read_state l.b.state.now) l.b.spare.now (min (256 * l.k) l.a.d.n) l.same;
  first : length l.first ≡ 256;
  second : length l.second ≡ 256;
}
