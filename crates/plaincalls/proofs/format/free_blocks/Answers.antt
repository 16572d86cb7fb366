-- One count more is 0.
use Rattle.std.proofs.Common.{arith}
use Rattle.front.proofs.Filling.{fill_none, fill_next, fill_all}
use Rattle.plainstate.proofs.Shaping.{length-counts, shaped-counts}
use Rattle.plaincalls.proofs.Filling.{counts}
use Rattle.plaincalls.proofs.format.free_blocks.Goals as goal

pub loop-k-init : goal.loop-k-init
loop-k-init c = record { shape = c.requires; so = fill_none 0 counts _ _ (length-counts _ _ c.requires) }

pub loop-k-preserved : goal.loop-k-preserved
loop-k-preserved c = record {
  shape = rw c.set_count.ensures (shaped-counts _ _ _ c.loop-k.invariant.shape);
  so = fill_next 0 counts _ _ (length-counts _ _ c.requires) _ _ _ c.loop-k.invariant.so c.loop-k-test.true c.set_count.ensures;
}

pub returns : goal.returns
returns c = fill_all 0 counts _ _ (length-counts _ _ c.requires) _ _ c.loop-k.invariant.so (omega arith)
