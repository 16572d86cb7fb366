-- From where the counts end.
use Rattle.plainstate.proofs.Sizes.{small, entry_from}
use Rattle.plainstate.proofs.places.entry_place.Goals as goal

pub count_place-requires : goal.count_place-requires
count_place-requires c = (small _ c.args.d.limits).blocks

pub returns : goal.returns
returns c = entry_from _ _ _ c.count_place.ensures
