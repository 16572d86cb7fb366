-- The condition isn't met, and nothing is changed; or it is, and gives what the work requires.
use mathlib.Core.Path.{sym, ◌∙◌}
use Rattle.probe.proofs.Batches.{learnable-parts, not_learned, is_learned}
use Rattle.probe.proofs.probe_learn.Goals as goal

pub returns-then-not-may_learn : goal.returns-then-not-may_learn
returns-then-not-may_learn c = not_learned _ _ _ _ _ _ (sym c.may_learn.ensures ∙ c.if-not-may_learn.true)

pub learn_all-requires-clause-written_value : goal.learn_all-requires-clause-written_value
learn_all-requires-clause-written_value c = (learnable-parts _ _ _ _ _ (sym c.may_learn.ensures ∙ c.if-not-may_learn.false)).0

pub learn_all-requires-clause-written_in_bounds : goal.learn_all-requires-clause-written_in_bounds
learn_all-requires-clause-written_in_bounds c = (learnable-parts _ _ _ _ _ (sym c.may_learn.ensures ∙ c.if-not-may_learn.false)).1

pub returns : goal.returns
returns c =
    let done = c.learn_all.ensures in
    is_learned _ _ _ _ _ _ (sym c.may_learn.ensures ∙ c.if-not-may_learn.false) _ _ _ done.value done.out_after done.taken_after
