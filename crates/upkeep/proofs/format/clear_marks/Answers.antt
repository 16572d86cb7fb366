-- A turn clears the next byte; behind the last one all are clear.
use Rattle.std.proofs.Common.{arith}
use Rattle.front.proofs.Filling.{fill_none, fill_next, fill_all}
use Rattle.state.proofs.Shaping.{length-marks, shaped-marks}
use Rattle.upkeep.proofs.Filling.{marks}
use Rattle.upkeep.proofs.format.clear_marks.Goals as goal

pub loop-k-init : goal.loop-k-init
loop-k-init c = record {
  shape = c.requires;
  cleared = fill_none 0 marks _ _ (length-marks _ _ c.requires);
}

pub loop-k-preserved : goal.loop-k-preserved
loop-k-preserved c =
    let v = c.loop-k.invariant in record {
      shape = rw c.set_marks_byte.ensures (shaped-marks _ _ _ v.shape);
      cleared = fill_next 0 marks _ _ (length-marks _ _ c.requires) _ _ _ v.cleared (omega arith) c.set_marks_byte.ensures;
    }

pub returns : goal.returns
returns c = fill_all 0 marks _ _ (length-marks _ _ c.requires) _ _ c.loop-k.invariant.cleared (omega arith)
