-- The state ends where the last entry does.
use Rattle.plainstate.proofs.Sizes.{table-end}
use Rattle.plainstate.proofs.places.table_len.Goals as goal

pub returns : goal.returns
returns c = table-end _ _ c.entry_place.ensures
