-- A turn empties the next group; behind the last one all are empty.
use Rattle.std.proofs.Common.{arith, []}
use Rattle.front.proofs.Filling.{fill_none, fill_next, fill_all}
use Rattle.state.proofs.Shaping.{length-groups, shaped-groups}
use Rattle.upkeep.proofs.Filling.{groups}
use Rattle.upkeep.proofs.format.empty_groups.Goals as goal

pub loop-k-init : goal.loop-k-init
loop-k-init c = record {
  shape = c.requires;
  emptied = fill_none [] groups _ _ (length-groups _ _ c.requires);
}

pub loop-k-preserved : goal.loop-k-preserved
loop-k-preserved c =
    let v = c.loop-k.invariant in record {
      shape = rw c.empty_group.ensures (shaped-groups _ _ _ v.shape);
      emptied = fill_next [] groups _ _ (length-groups _ _ c.requires) _ _ _ v.emptied (omega arith) c.empty_group.ensures;
    }

pub returns : goal.returns
returns c = fill_all [] groups _ _ (length-groups _ _ c.requires) _ _ c.loop-k.invariant.emptied (omega arith)
