use Rattle.std.proofs.Common.{refl}
use Rattle.calls.specs.Flush.{clear_marks}
use Rattle.model.proofs.Lists.{elem-get_or}
use Rattle.model.proofs.Parts.{all_below}
use Rattle.state.proofs.Shaping.{shaped-marks}
use Rattle.state.proofs.Marking.{marks_stay, cleared_on, cleared_all}
use Rattle.state.proofs.marks.unmark_all.Goals as goal

pub returns-then-not-may_be_marked : goal.returns-then-not-may_be_marked
unfolding clear_marks
returns-then-not-may_be_marked c = marks_stay _ _ (c.may_be_marked.ensures c.if-not-may_be_marked.true)

pub loop-x-init : goal.loop-x-init
loop-x-init c = record { shape = c.requires.0; rest = refl }

pub unmark-requires : goal.unmark-requires
unmark-requires c = (c.loop-x.invariant.shape, all_below _ _ c.requires.1 _ (elem-get_or _ _ c.loop-x-test.true))

pub loop-x-preserved : goal.loop-x-preserved
loop-x-preserved c =
    let made = c.unmark.ensures in record {
      shape = rw made (shaped-marks _ _ _ c.loop-x.invariant.shape);
      rest = cleared_on _ _ _ _ _ c.loop-x-test.true c.loop-x.invariant.rest made;
    }

pub returns : goal.returns
returns c = cleared_all _ _ _ _ c.loop-x-test.false c.loop-x.invariant.rest
