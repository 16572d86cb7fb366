-- The state ends where the last group does.
use Rattle.state.proofs.Places.{state-end}
use Rattle.state.proofs.numbers.state_len.Goals as goal

pub returns : goal.returns
returns c = state-end _ _ _ c.group_place.ensures c.group_count-n.ensures
