-- What is counted so far and what the rest counts make the whole.
use Rattle.std.proofs.Common.{◌≡◌, ◌+◌, ◌≤◌}
use Rattle.front.specs.Read.{numbers_of}
use Rattle.front.specs.Reading.{read_counts}
use Rattle.front.proofs.Scanning.{free_from}
use Rattle.front.proofs.counts.free_count.Given as goal

abbrev pub invariant-loop-k : goal.invariant-loop-k
invariant-loop-k l = (l.n ≤ l.k) × (free_from (read_counts (numbers_of l.d) l.state) 0 ≡ l.n + free_from (read_counts (numbers_of l.d) l.state) l.k)
