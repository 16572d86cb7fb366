-- What is left to store are the entries from x on that are moved, behind the n that are stored.
use Rattle.plainstate.specs.Reading.{read_table}
use Rattle.plaincalls.specs.Passes.{is_moved}
use Rattle.plaincalls.proofs.Gathering.{Gathering}
use Rattle.plaincalls.proofs.moving.gather.Given as goal

abbrev pub invariant-loop-x : goal.invariant-loop-x
invariant-loop-x l = Gathering (is_moved l.kept l.d.b) (read_table l.state).entries l.fn.pages l.fn.sources l.pages l.sources l.n l.x
