-- The first of the whole is the first of the rest, until one is found.
use Rattle.std.proofs.Common.{◌≡◌}
use Rattle.model.specs.State.{lowest_in}
use Rattle.front.specs.Read.{numbers_of}
use Rattle.front.specs.Reading.{read_counts}
use Rattle.front.proofs.Scanning.{lowest_from}
use Rattle.front.proofs.counts.lowest_free.Given as goal

abbrev pub invariant-loop-k : goal.invariant-loop-k
invariant-loop-k l = lowest_in (read_counts (numbers_of l.d) l.state) ≡ lowest_from (read_counts (numbers_of l.d) l.state) l.k
