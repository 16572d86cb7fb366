-- `loses` meets its contract: by the record's kind, and the note at its number.
use mathlib.Core.Path.{sym, ◌∙◌}
use native.Mathlib.Numerals.{add-one}
use Rattle.insertion.specs.InsertSlots.{is_loser}
use Rattle.insertion.proofs.loses.Goals as goal

pub returns-then-is_approximate : goal.returns-then-is_approximate
unfolding is_loser
returns-then-is_approximate c = λ K. rw (add-one _, sym (c.is_approximate.ensures K) ∙ c.if-is_approximate.true)

pub returns-else-is_approximate : goal.returns-else-is_approximate
unfolding is_loser
returns-else-is_approximate c = λ K. c.if-is_approximate.false ∙ rw (sym (c.is_approximate.ensures K) ∙ c.if-is_approximate.false)
