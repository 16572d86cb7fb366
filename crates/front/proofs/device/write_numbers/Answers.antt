-- Four stores, one behind the other.
use Rattle.std.proofs.Common.{arith}
use Rattle.model.specs.Device.{head_length}
use Rattle.front.proofs.HeadBytes.{head_stores}
use Rattle.front.proofs.device.write_numbers.Goals as goal

pub put_u32-requires : goal.put_u32-requires
unfolding head_length
put_u32-requires c = omega arith

pub put_u32-requires-2 : goal.put_u32-requires-2
unfolding head_length
put_u32-requires-2 c = omega arith

pub put_u32-requires-3 : goal.put_u32-requires-3
unfolding head_length
put_u32-requires-3 c = omega arith

pub put_u32-requires-4 : goal.put_u32-requires-4
unfolding head_length
put_u32-requires-4 c = omega arith

pub returns : goal.returns
returns c = head_stores _ _ _ _ _ _ c.put_u32.ensures c.put_u32-2.ensures c.put_u32-3.ensures c.put_u32-4.ensures
