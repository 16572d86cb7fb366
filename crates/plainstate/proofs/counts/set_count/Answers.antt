-- The front's bytes change so: the law of that writer.
use Rattle.std.proofs.Common.{ap, ◌∙◌}
use Rattle.plainstate.specs.Reading.{read_table}
use Rattle.plainstate.proofs.Shaping.{front_in}
use Rattle.plainstate.proofs.Writers.{count-stored_at}
use Rattle.plainstate.proofs.counts.set_count.Goals as goal

pub set_count-requires : goal.set_count-requires
set_count-requires c = ((front_in _ _ c.requires.0).0, c.requires.1, c.requires.2)

pub returns : goal.returns
returns c = ap read_table c.set_count.ensures.state_after_2 ∙ count-stored_at _ _ c.requires.0 _ _ c.requires.1 c.requires.2
