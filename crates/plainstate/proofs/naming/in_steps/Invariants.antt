-- Where nothing is off so far, the entries up to j are in steps.
use Rattle.std.proofs.Common.{◌≡◌, ℕ, ◌+◌, ◌*◌, ◌<◌}
use Rattle.plain.specs.Table.{entry_at}
use Rattle.plainstate.specs.Reading.{read_table}
use Rattle.plainstate.proofs.naming.in_steps.Given as goal

abbrev pub invariant-loop-j : goal.invariant-loop-j
invariant-loop-j l = l.off ≡ 0 → (i : ℕ) → i < l.j → entry_at (read_table l.state) (l.x + i) ≡ l.e + i * l.s
