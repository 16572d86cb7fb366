-- Those so far are counted.
use Rattle.model.specs.Marks.{is_marked}
use Rattle.plainstate.proofs.Ones.{Counted}
use Rattle.plainstate.proofs.bits.one_by_one.Given as goal

abbrev pub invariant-loop-p : goal.invariant-loop-p
invariant-loop-p l = Counted (is_marked l.bits) l.a l.e l.p l.n
