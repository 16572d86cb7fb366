-- Four numbers, each read at its place.
use Rattle.std.proofs.Common.{arith}
use Rattle.model.specs.Device.{head_length}
use Rattle.front.proofs.HeadBytes.{numbers-read}
use Rattle.front.proofs.device.numbers.Goals as goal

pub get_u32-m-requires : goal.get_u32-m-requires
unfolding head_length
get_u32-m-requires c = omega arith

pub get_u32-b-requires : goal.get_u32-b-requires
unfolding head_length
get_u32-b-requires c = omega arith

pub get_u32-n-requires : goal.get_u32-n-requires
unfolding head_length
get_u32-n-requires c = omega arith

pub get_u32-g-requires : goal.get_u32-g-requires
unfolding head_length
get_u32-g-requires c = omega arith

pub returns : goal.returns
returns c = numbers-read _ _ _ _ _ c.get_u32-m.ensures c.get_u32-b.ensures c.get_u32-n.ensures c.get_u32-g.ensures
