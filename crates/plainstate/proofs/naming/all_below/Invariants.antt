-- The entries up to j are at most what they are joined to.
use Rattle.std.proofs.Common.{ℕ, ◌+◌, ◌≤◌, ◌<◌}
use Rattle.plain.specs.Table.{entry_at}
use Rattle.plainstate.specs.Reading.{read_table}
use Rattle.plainstate.proofs.naming.all_below.Given as goal

abbrev pub invariant-loop-j : goal.invariant-loop-j
invariant-loop-j l = (i : ℕ) → i < l.j → entry_at (read_table l.state) (l.x + i) ≤ l.any
