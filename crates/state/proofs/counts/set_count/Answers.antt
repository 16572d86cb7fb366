-- The front's bytes change so: the law of that writer.
use mathlib.Core.Path.{ap, ◌∙◌}
use Rattle.state.specs.Reading.{read_state}
use Rattle.state.proofs.Shaping.{front_in}
use Rattle.state.proofs.Writers.{count-stored_at}
use Rattle.state.proofs.counts.set_count.Goals as goal

pub set_count-requires : goal.set_count-requires
set_count-requires c = let pre = c.requires in
    ((front_in _ _ pre.0).0, pre.1, pre.2)

pub returns : goal.returns
returns c = let pre = c.requires in
    ap read_state c.set_count.ensures.state_after_2 ∙ count-stored_at _ _ pre.0 _ _ pre.1 pre.2
