-- The part is group k.
use Rattle.std.proofs.Common.{arith}
use Rattle.state.proofs.Places.{small}
use Rattle.state.proofs.Shaping.{front_in}
use Rattle.state.proofs.groups.group_sound.Goals as goal

pub sound-requires : goal.sound-requires
sound-requires c = (c.group_bytes.ensures.long, omega (arith, c.requires.1, (small _ (front_in _ _ c.requires.0).1).groups))
