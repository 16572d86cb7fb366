-- A law of the ends for each answer.
use mathlib.Core.Path.{sym, ap, ◌∙◌}
use mathlib.Core.List.{[]}
use mathlib.Core.Bool.{Bool, not}
use borrow.Author.Tests.{eq-eqb}
use Rattle.probe.proofs.Masks.{ends_other, ends_first, ends_last}
use Rattle.probe.proofs.groups.ends_masked.Goals as goal

pub returns-else-is_approximate : goal.returns-else-is_approximate
returns-else-is_approximate c = ends_other _ _ (sym (c.is_approximate.ensures []) ∙ c.if-is_approximate.false)

pub returns-then-mask-r-ne0 : goal.returns-then-mask-r-ne0
returns-then-mask-r-ne0 c = ends_last _ _ (sym (c.is_approximate.ensures []) ∙ c.if-is_approximate.true) c.if-mask-r-ne0.true

pub returns-else-mask-r-ne0 : goal.returns-else-mask-r-ne0
returns-else-mask-r-ne0 c =
    ap (λ (t : Bool). not t) (eq-eqb _ 0 c.if-mask-r-ne0.false)
    ∙ ends_first _ _ (sym (c.is_approximate.ensures []) ∙ c.if-is_approximate.true) c.if-mask-r-ne0.false
