-- The count, then the entries.
use Rattle.std.proofs.Common.{arith}
use Rattle.model.proofs.Limits.{limits}
use Rattle.front.specs.Read.{numbers_of}
use Rattle.plainstate.proofs.Sizes.{small, block-end}
use Rattle.plainstate.proofs.Shaping.{shaped-counts}
use Rattle.plaincalls.proofs.Entering.{block_taken_lem}
use Rattle.plaincalls.proofs.block.write_block.Goals as goal

-- the block's pages are among the device's
pub overflow_mul-first : goal.overflow_mul-first
overflow_mul-first c = omega (arith, block-end (numbers_of c.args.d) _ c.requires.3, (small _ c.requires.0.limits).all)

pub set_count-requires : goal.set_count-requires
set_count-requires c = (c.requires.0, c.requires.3, omega (arith, c.requires.2, (limits _ c.requires.0.limits).most_B))

pub enter-requires : goal.enter-requires
enter-requires c = (
  rw c.set_count.ensures (shaped-counts _ _ _ c.requires.0),
  c.requires.1,
  omega (arith, block-end (numbers_of c.args.d) _ c.requires.3, (small _ c.requires.0.limits).all, c.requires.2),
)

pub returns : goal.returns
returns c = block_taken_lem _ _ _ _ _ _ c.requires.0.numbers c.set_count.ensures c.enter.ensures
