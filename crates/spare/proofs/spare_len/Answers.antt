-- The area's length is the blocks times a block's entries, at most 32,505,856.
use Rattle.std.proofs.Common.{arith, rules}
use Rattle.spare.proofs.Sizes.{sizes, area-size}
use Rattle.spare.proofs.spare_len.Goals as goal

pub overflow_mul-result : goal.overflow_mul-result
overflow_mul-result c = omega (arith, (sizes _ c.args.d.limits).area, area-size _ _ c.entries_per_block.ensures)

pub returns : goal.returns
returns c = search (area-size, rules)
