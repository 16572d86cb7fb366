-- Behind the counts, whose end is the place of a count behind the last; at most 73,728.
use Rattle.state.proofs.Places.{small, marks_from}
use Rattle.state.proofs.numbers.marks_place.Goals as goal

pub count_place-requires : goal.count_place-requires
count_place-requires c = (small _ c.args.d.limits).blocks

pub returns : goal.returns
returns c = marks_from _ _ _ c.count_place.ensures
