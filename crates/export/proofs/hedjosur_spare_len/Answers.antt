-- By the test of the limits.
use Rattle.export.specs.Packing.{spare_len}
use Rattle.export.proofs.Lengths.{within, outside}
use Rattle.export.proofs.hedjosur_spare_len.Goals as goal

pub returns-in-Some : goal.returns-in-Some
unfolding spare_len
returns-in-Some c = rw (← c.in-Some.ensures) (within _ _ _ c.in-Some.d.limits c.spare_len.ensures)

pub returns-in-None : goal.returns-in-None
unfolding spare_len
returns-in-None c = outside _ _ c.in-None.ensures
