-- The middle entry decides first, then the search.
use Rattle.std.proofs.Common.{rules, ◌∙◌}
use Rattle.model.specs.Options.{as_option}
use Rattle.spare.proofs.Naming.{named-predicted, named-near}
use Rattle.spare.proofs.page_named.Goals as goal

pub returns-then-middle-x : goal.returns-then-middle-x
unfolding as_option
returns-then-middle-x c = search (named-predicted, rules)

pub returns-else-middle-x : goal.returns-else-middle-x
returns-else-middle-x c = c.lowest_naming.ensures ∙ named-near _ _ _ _ _ c.middle.ensures c.if-middle-x.false
