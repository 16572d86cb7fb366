-- `get_u16` meets its contract: the two bytes are the digits of `le16`.
use Rattle.std.proofs.Common.{arith}
use Rattle.octets.specs.Little.{le16}
use Rattle.octets.proofs.get_u16.Goals as goal

pub returns : goal.returns
unfolding le16
returns c = (omega (arith, c.from_le_bytes.ensures, c.from.ensures), omega arith)
