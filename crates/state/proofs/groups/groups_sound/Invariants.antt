-- The whole is sound if the rest is, until a group fails.
use Rattle.std.proofs.Common.{◌≡◌}
use Rattle.state.specs.Reading.{read_state}
use Rattle.state.proofs.Handing.{groups_sound}
use Rattle.state.proofs.groups.groups_sound.Given as goal

abbrev pub invariant-loop-k : goal.invariant-loop-k
invariant-loop-k l = groups_sound (read_state l.state) l.d.n 0 ≡ groups_sound (read_state l.state) l.d.n l.k
