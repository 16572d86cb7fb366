-- Behind the marks, whose end is the place of a byte behind the last; at most 11,616,256.
use native.Mathlib.Omega.{arith}
use Rattle.front.specs.Read.{numbers_of}
use Rattle.state.proofs.Places.{group-small, group_from}
use Rattle.state.proofs.numbers.group_place.Goals as goal

pub overflow_add-result : goal.overflow_add-result
overflow_add-result c = omega (arith, group_from (numbers_of c.args.d) c.args.k _ _ c.marks_count-n.ensures c.marks_place.ensures, group-small _ _ c.args.d.limits c.requires)

pub returns : goal.returns
returns c = group_from _ _ _ _ c.marks_count-n.ensures c.marks_place.ensures
