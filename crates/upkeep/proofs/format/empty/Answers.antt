-- Both words are 0 in the end: a group without slots and owners is the empty one.
use Rattle.std.proofs.Common.{arith}
use Rattle.model.specs.Device.{group_length}
use Rattle.upkeep.proofs.Emptied.{empty-read}
use Rattle.upkeep.proofs.format.empty.Goals as goal

pub put_u16-requires : goal.put_u16-requires
unfolding group_length
put_u16-requires c = (omega arith, omega arith)

pub put_u16-requires-2 : goal.put_u16-requires-2
unfolding group_length
put_u16-requires-2 c = (omega arith, omega arith)

pub returns : goal.returns
returns c = empty-read _ _ _ c.requires c.put_u16.ensures c.put_u16-2.ensures
