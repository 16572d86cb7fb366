-- The middle entry is entry g, and a page has one.
use Rattle.std.proofs.Common.{arith, rules}
use Rattle.model.specs.Spare.{middle}
use Rattle.model.proofs.Limits.{g_inside, names-inside}
use Rattle.front.specs.Read.{numbers_of}
use Rattle.spare.proofs.middle.Goals as goal

pub entry-requires : goal.entry-requires
entry-requires c = (c.requires.0, c.requires.1, omega (arith, g_inside (numbers_of c.args.d), names-inside (numbers_of c.args.d)))

pub returns : goal.returns
unfolding middle
returns c = search rules
