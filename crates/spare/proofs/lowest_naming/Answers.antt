-- Each turn that doesn't return leaves the search of the entries from the next on, which is the model's recursion.
use Rattle.std.proofs.Common.{arith, sym, ◌∙◌}
use Rattle.model.specs.Options.{as_option}
use Rattle.spare.proofs.Sizes.{sizes}
use Rattle.spare.proofs.Naming.{names_from, lowest_start, lowest-hit, lowest_miss, lowest-end}
use Rattle.spare.proofs.lowest_naming.Goals as goal

pub loop-j-init : goal.loop-j-init
loop-j-init c = lowest_start _ _ _ _ _ c.entries_per_page-j-end.ensures

pub overflow_add-result : goal.overflow_add-result
overflow_add-result c = let s = c.requires in omega (arith, s.1, sizes _ c.args.d.limits, c.entries_per_page-j-end.ensures)

pub overflow_sub-result : goal.overflow_sub-result
overflow_sub-result c = names_from _ _ _ _ _ (sym c.names.ensures ∙ c.if-names.true)

pub returns-then-names : goal.returns-then-names
unfolding as_option
returns-then-names c = sym (c.loop-j.invariant ∙ lowest-hit _ _ _ _ _ _ _ c.names.ensures c.loop-j-test.true c.if-names.true)

pub loop-j-preserved : goal.loop-j-preserved
loop-j-preserved c = c.loop-j.invariant ∙ lowest_miss _ _ _ _ _ _ _ c.names.ensures c.loop-j-test.true c.if-names.false

pub returns : goal.returns
unfolding as_option
returns c = sym (c.loop-j.invariant ∙ lowest-end _ _ _ _ _ _ c.loop-j-test.false)
