-- A block's entries are its pages times a page's entries, at most 7,936.
use Rattle.std.proofs.Common.{arith, rules}
use Rattle.spare.proofs.Sizes.{sizes, block_size}
use Rattle.spare.proofs.entries_per_block.Goals as goal

pub overflow_mul-result : goal.overflow_mul-result
overflow_mul-result c = omega (arith, (sizes _ c.args.d.limits).block, block_size _ _ c.entries_per_page.ensures)

pub returns : goal.returns
returns c = search (block_size, rules)
