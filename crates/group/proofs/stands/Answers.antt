-- `stands` meets its contract: a law of the slot's place for each answer.
use mathlib.Core.Path.{◌∙◌}
use mathlib.Core.Logic.{inl, inr}
use Prim.Native.Nat.{◌<◌}
use native.Mathlib.Omega.{arith}
use borrow.Author.Rules.{rules}
use borrow.Author.Tests.{lt-leb}
use Rattle.group.proofs.Tests.{stands-early, stands-above, stands-shaped}
use Rattle.group.proofs.stands.Goals as goal
use Rattle.group.proofs.stands.Goals.{then-free-s, else-free-s}

pub returns-then-s-levels : goal.returns-then-s-levels
returns-then-s-levels c = search (stands-shaped, rules)

pub returns-else-s-levels : goal.returns-else-s-levels
returns-else-s-levels c =
    elim c.if-free-s.branch [
      | then-free-s w ↦
          let h : c.args.levels < c.args.s.level = elim c.if-s-levels.either [ inl x ↦ x.1 | inr x ↦ absurd (omega arith) ] in
          w.t-6-is ∙ lt-leb _ _ h ∙ stands-above _ _ _ _ (omega arith) (omega arith) h
      | else-free-s w ↦ w.t-6-is ∙ lt-leb _ _ w.if-free-s.false ∙ stands-early _ _ _ _ (omega arith) (omega arith) w.if-free-s.false
    ]
