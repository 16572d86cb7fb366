use Rattle.std.proofs.Common.{◌∙◌, refl, arith}
use Rattle.std.proofs.lemmas.Bool.{ltb-false}
use Rattle.model.specs.Marks.{mark_byte}
use Rattle.model.proofs.Lists.{elem-get_or}
use Rattle.model.proofs.Marks.{mark-inside}
use Rattle.model.proofs.Parts.{all_below}
use Rattle.state.proofs.Marking.{counted, uncounted, unmarked_on, unmarked_end}
use Rattle.state.proofs.marks.may_be_marked.Goals as goal

pub loop-x-init : goal.loop-x-init
loop-x-init c = record { few = omega arith; rest = λ _. refl }

pub has_marks-requires : goal.has_marks-requires
unfolding mark_byte
has_marks-requires c =
    (c.requires.0, mark-inside _ _ (all_below _ _ c.requires.1 _ (elem-get_or _ _ c.loop-x-test.true)))

pub overflow_add-count : goal.overflow_add-count
overflow_add-count c = omega (arith, c.loop-x.invariant.few, counted _ _ c.from-count.ensures)

pub loop-x-preserved : goal.loop-x-preserved
loop-x-preserved c =
    let one = counted _ _ c.from-count.ensures in record {
      few = omega (arith, c.loop-x.invariant.few, one);
      rest = λ e. c.loop-x.invariant.rest (omega arith) ∙ unmarked_on _ _ _ c.loop-x-test.true (c.has_marks.ensures (uncounted _ _ c.from-count.ensures (omega arith)) _ refl);
    }

pub returns : goal.returns
returns c e =
    let none = ltb-false 0 c.loop-x.count e in
    c.loop-x.invariant.rest (omega (arith, none)) ∙ unmarked_end _ _ _ c.loop-x-test.false
