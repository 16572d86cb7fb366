-- `shrink_accurate` meets its contract: a single's and an accurate record's members left are those of a stride that stay.
use Rattle.std.proofs.Common.{arith, [], ◌/◌, ◌<◌}
use Rattle.model.specs.Levels.{shrink}
use Rattle.record.proofs.Words.{even_of}
use Rattle.record.proofs.Masks.{single_picks, strided_picks, whole}
use Rattle.record.proofs.Record.shrink_accurate.Goals as goal

pub returns-then-self-eq0 : goal.returns-then-self-eq0
unfolding shrink
returns-then-self-eq0 c = c.shrunk.ensures [] _ (single_picks _ _ c.if-self-eq0.true)

pub nonzero_rem-self : goal.nonzero_rem-self
nonzero_rem-self c = omega (arith, even_of _ c.requires.2)

pub shrunk-requires-else-self-eq0 : goal.shrunk-requires-else-self-eq0
shrunk-requires-else-self-eq0 c =
    let some : 0 < c.args.self.word / 2 = omega (arith, even_of _ c.requires.2) in
    (c.requires.0, some, omega arith, omega arith, omega arith, whole _ _ _ some)

pub returns-else-self-eq0 : goal.returns-else-self-eq0
unfolding shrink
returns-else-self-eq0 c = c.shrunk-else-self-eq0.ensures [] _ (strided_picks _ _ c.if-self-eq0.false (even_of _ c.requires.2))
