use Rattle.std.proofs.Common.{arith}
use Rattle.std.proofs.lemmas.Bool.{ltb-false}
use Rattle.model.specs.Device.{marks_count}
use Rattle.state.proofs.Marking.{counted, uncounted}
use Rattle.state.proofs.MarkingOut.{in_start, in_on}
use Rattle.state.proofs.marks.any_marked.Goals as goal

pub loop-k-init : goal.loop-k-init
loop-k-init c = record { few = omega arith; none = λ _. in_start _ _ }

pub has_marks-requires : goal.has_marks-requires
unfolding marks_count
has_marks-requires c = (c.requires.0, omega (arith, c.requires.1))

pub overflow_add-marked : goal.overflow_add-marked
overflow_add-marked c = omega (arith, c.loop-k.invariant.few, counted _ _ c.from-marked.ensures)

pub loop-k-preserved : goal.loop-k-preserved
loop-k-preserved c =
    let one = counted _ _ c.from-marked.ensures in record {
      few = omega (arith, c.loop-k.invariant.few, one);
      none = λ e. in_on _ _ _ (c.loop-k.invariant.none (omega arith)) (c.has_marks.ensures (uncounted _ _ c.from-marked.ensures (omega arith)));
    }

pub returns : goal.returns
returns c e o lt =
    let none = ltb-false 0 c.loop-k.marked e in
    c.loop-k.invariant.none (omega (arith, none)) _ (omega arith) (omega (arith, lt, c.loop-k-test.false))
