-- Two bytes of eight marks each.
use Rattle.plainstate.proofs.Marking.{two_marked}
use Rattle.plainstate.proofs.bits.fill_two.Goals as goal

pub returns : goal.returns
returns c = two_marked _ _ c.requires
