-- By the number of pages.
use Rattle.std.proofs.Common.{arith}
use Rattle.model.specs.Device.{pages}
use Rattle.plainstate.proofs.Sizes.{small}
use Rattle.plainstate.proofs.sound.sound.Goals as goal

pub overflow_mul-n : goal.overflow_mul-n
unfolding pages
overflow_mul-n c = omega (arith, (small _ c.requires.limits).all)

pub sound_within-requires : goal.sound_within-requires
unfolding pages
sound_within-requires c = (c.requires, omega (arith, c.if-n-le-LEAST.true), omega arith)

pub sound_within-requires-then-n-le-FEW : goal.sound_within-requires-then-n-le-FEW
unfolding pages
sound_within-requires-then-n-le-FEW c = (c.requires, omega (arith, c.if-n-le-FEW.true), omega arith)

pub sound_within-requires-then-n-le-MORE : goal.sound_within-requires-then-n-le-MORE
unfolding pages
sound_within-requires-then-n-le-MORE c = (c.requires, omega (arith, c.if-n-le-MORE.true), omega arith)

pub sound_within-requires-else-n-le-MORE : goal.sound_within-requires-else-n-le-MORE
sound_within-requires-else-n-le-MORE c = (c.requires, omega (arith, (small _ c.requires.limits).all), omega arith)
