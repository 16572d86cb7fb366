-- 2g + 1 as the model has it; g is at most 15, so it fits.
use Rattle.std.proofs.Common.{arith, rules}
use Rattle.model.specs.Device.{names_per_page, entries_per_page}
use Rattle.spare.proofs.Sizes.{sizes}
use Rattle.spare.proofs.entries_per_page.Goals as goal

pub overflow_mul-result : goal.overflow_mul-result
overflow_mul-result c = omega (arith, (sizes _ c.args.d.limits).bound)

pub overflow_add-result : goal.overflow_add-result
overflow_add-result c = omega (arith, (sizes _ c.args.d.limits).bound)

pub returns : goal.returns
unfolding entries_per_page names_per_page
returns c = search rules
