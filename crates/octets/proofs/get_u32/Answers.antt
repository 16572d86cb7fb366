-- `get_u32` meets its contract: the four bytes are the digits of `le32`.
use Rattle.std.proofs.Common.{arith, ◌≡◌, ◌+◌}
use Rattle.octets.specs.Little.{le16, le32}
use Rattle.octets.proofs.get_u32.Goals as goal

pub returns : goal.returns
unfolding le16 le32
returns c =
    let top : c.args.p + 2 + 1 ≡ c.args.p + 3 = omega arith in
    rw top (omega (arith, c.from_le_bytes.ensures))
