-- The condition isn't met, and nothing is changed; or it is, and gives what the work requires.
use mathlib.Core.Path.{sym, ◌∙◌}
use borrow.Author.Rules.{rules}
use Rattle.probe.proofs.Batches.{sortable-parts, not_sorted, is_sorted}
use Rattle.probe.proofs.probe_sort.Goals as goal

pub returns-then-not-may_sort : goal.returns-then-not-may_sort
returns-then-not-may_sort c = not_sorted _ _ _ _ (sym c.may_sort.ensures ∙ c.if-not-may_sort.true)

pub sort_batch-requires : goal.sort_batch-requires
sort_batch-requires c = sortable-parts _ _ _ (sym c.may_sort.ensures ∙ c.if-not-may_sort.false)

pub returns : goal.returns
returns c =
    let done = c.sort_batch.ensures in
    is_sorted _ _ _ _ (sym c.may_sort.ensures ∙ c.if-not-may_sort.false) _ _ _ done.count done.logical done.source
