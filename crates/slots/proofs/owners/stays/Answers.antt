-- `stays` meets its contract: one law for each way to answer.
use mathlib.Core.Path.{◌≡◌, refl, sym, ◌∙◌}
use mathlib.Core.Bool.{Bool, true, false, not}
use native.Mathlib.Numerals.{add-one}
use borrow.Author.Tests.{ne_eqb}
use Rattle.slots.proofs.Owning.{left-named, left_other}
use Rattle.slots.proofs.owners.stays.Goals as goal

twice : (t : Bool) → t ≡ not (not t)
twice true = refl
twice false = refl

pub returns-then-owner-start : goal.returns-then-owner-start
returns-then-owner-start c = twice _ ∙ sym (left-named _ _ _ (sym c.owner.ensures.0 ∙ c.if-owner-start.true ∙ add-one _))

pub returns-else-owner-start : goal.returns-else-owner-start
returns-else-owner-start c =
    ne_eqb _ _ c.if-owner-start.false ∙ sym (left_other _ _ _ (λ e. c.if-owner-start.false (c.owner.ensures.0 ∙ e ∙ sym (add-one _))))
