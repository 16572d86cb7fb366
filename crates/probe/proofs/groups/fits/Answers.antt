-- By the shape, the ends and the mask, one after the other.
use mathlib.Core.Path.{sym, ◌∙◌}
use mathlib.Core.Bool.{true≢false}
use native.Mathlib.Omega.{arith}
use Rattle.group.proofs.Shapes.{shaped-below}
use Rattle.probe.proofs.Masks.{not_shaped, not_ends, all_tests}
use Rattle.probe.proofs.groups.fits.Goals as goal
use Rattle.probe.proofs.groups.fits.Goals.{then-shaped, else-shaped}

pub ends_masked-requires : goal.ends_masked-requires
ends_masked-requires c = (c.requires.0, omega (arith, shaped-below 256 _ (sym c.shaped.ensures ∙ c.if-shaped.true)))

pub returns-then-ends_masked : goal.returns-then-ends_masked
returns-then-ends_masked c =
    elim c.if-shaped.branch [
      | then-shaped w ↦ all_tests _ _ (sym c.shaped.ensures ∙ w.if-shaped.true) (sym w.ends_masked.ensures ∙ sym w.value-is ∙ c.if-ends_masked.true) _ c.all_masked.ensures
      | else-shaped w ↦ absurd (true≢false (sym c.if-ends_masked.true ∙ w.value-is ∙ w.if-shaped.false))
    ]

pub returns-else-ends_masked : goal.returns-else-ends_masked
returns-else-ends_masked c =
    elim c.if-shaped.branch [
      | then-shaped w ↦ c.if-ends_masked.false ∙ not_ends _ _ (sym w.ends_masked.ensures ∙ sym w.value-is ∙ c.if-ends_masked.false)
      | else-shaped w ↦ c.if-ends_masked.false ∙ not_shaped _ _ (sym c.shaped.ensures ∙ w.if-shaped.false)
    ]
