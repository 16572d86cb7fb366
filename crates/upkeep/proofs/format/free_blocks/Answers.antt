-- A turn frees the next block; behind the last one all are free.
use Rattle.std.proofs.Common.{arith}
use Rattle.front.proofs.Filling.{fill_none, fill_next, fill_all}
use Rattle.state.proofs.Shaping.{length-counts, shaped-counts}
use Rattle.upkeep.proofs.Filling.{counts}
use Rattle.upkeep.proofs.format.free_blocks.Goals as goal

pub loop-k-init : goal.loop-k-init
loop-k-init c = record {
  shape = c.requires;
  freed = fill_none 0 counts _ _ (length-counts _ _ c.requires);
}

pub loop-k-preserved : goal.loop-k-preserved
loop-k-preserved c =
    let v = c.loop-k.invariant in record {
      shape = rw c.set_count.ensures (shaped-counts _ _ _ v.shape);
      freed = fill_next 0 counts _ _ (length-counts _ _ c.requires) _ _ _ v.freed c.loop-k-test.true c.set_count.ensures;
    }

pub returns : goal.returns
returns c = fill_all 0 counts _ _ (length-counts _ _ c.requires) _ _ c.loop-k.invariant.freed (omega arith)
