-- Its bit is set in its byte, by the value that the table has for it.
use Rattle.std.proofs.Common.{arith}
use Rattle.plainstate.proofs.Marking.{value-inside, or_byte, or_stored}
use Rattle.plainstate.proofs.bits.name_page.Goals as goal

pub bounds-values-p : goal.bounds-values-p
bounds-values-p c = value-inside _ _ 0 c.requires.1

pub put_u8-requires : goal.put_u8-requires
put_u8-requires c = (omega arith, or_byte _ _ _ c.requires.1 c.get_u8-byte.ensures.1)

pub returns : goal.returns
returns c = or_stored _ _ _ c.requires.1 _ c.get_u8-byte.ensures.0 _ c.put_u8.ensures
