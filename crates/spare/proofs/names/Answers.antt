-- The three tests of the model's `names`.
use Rattle.std.proofs.Common.{arith, sym, ◌∙◌}
use borrow.Author.Tests.{leb-true, ltb-true, ltb-false}
use Rattle.model.specs.Device.{pages}
use Rattle.spare.proofs.Sizes.{sizes}
use Rattle.spare.proofs.Naming.{names-before, names-behind, names-inside}
use Rattle.spare.proofs.names.Goals as goal
use Rattle.spare.proofs.names.Goals.{then-d-q, else-d-q}

pub overflow_add-q : goal.overflow_add-q
overflow_add-q c = let s = c.requires in omega (arith, s.1, s.2, sizes _ c.args.d.limits)

pub overflow_mul-d : goal.overflow_mul-d
unfolding pages
overflow_mul-d c = omega (arith, (sizes _ c.args.d.limits).count)

pub returns-then-q-d : goal.returns-then-q-d
unfolding pages
returns-then-q-d c =
    elim c.if-d-q.branch [
      | then-d-q w ↦ names-inside _ _ _ _ _ _ w.if-d-q.true (ltb-true _ _ (sym w.value-is ∙ c.if-q-d.true)) c.entry.ensures
      | else-d-q w ↦ absurd (let z : ⊥ = omega (arith, leb-true _ _ (sym w.value-is ∙ c.if-q-d.true)) in z)
    ]

pub returns-else-q-d : goal.returns-else-q-d
unfolding pages
returns-else-q-d c =
    elim c.if-d-q.branch [
      | then-d-q w ↦ c.if-q-d.false ∙ names-behind _ _ _ _ _ w.if-d-q.true (ltb-false _ _ (sym w.value-is ∙ c.if-q-d.false))
      | else-d-q w ↦ c.if-q-d.false ∙ names-before _ _ _ _ _ w.if-d-q.false
    ]
