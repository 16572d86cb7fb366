-- `renumber_levels` meets its contract: a slot more has its number, the same as before it or the next.
use mathlib.Core.Path.{◌≡◌, sym, ◌∙◌}
use Prim.Native.Nat.{ℕ, ◌+◌, ◌≤◌, ◌<◌}
use native.Mathlib.Numerals.{add-one}
use borrow.Author.Tests.{eq-eqb, ne_eqb}
use Rattle.slots.proofs.renumber_levels.Goals.{then-l-old, else-l-old}
use borrow.Author.Rules.{rules}
use native.Mathlib.Omega.{arith}
use Rattle.slots.specs.Edits.{renumbered, renumber_levels}
use Rattle.slots.proofs.SlotPass.{behind_first, change_turn, change_end, renumber_one}
use Rattle.slots.proofs.renumber_levels.Goals as goal

-- the same level, or another
same : (old new l : ℕ) → l ≡ old → renumbered old new l ≡ new
unfolding renumbered
same old new l e = rw (eq-eqb _ _ e, renumbered)

other : (old new l : ℕ) → (l ≡ old → ⊥) → renumbered old new l ≡ new + 1
unfolding renumbered
other old new l f = rw (ne_eqb _ _ f, renumbered) (sym (add-one _))

pub loop-k-init : goal.loop-k-init
unfolding behind_first
loop-k-init c = record { changing = search rules; new = omega arith }

pub relevel-requires : goal.relevel-requires
relevel-requires c =
    let so = c.loop-k.invariant in
    let count = so.changing.count in
    let small : c.if-l-old.new < 65536 = elim c.if-l-old.branch [ then-l-old w ↦ omega arith | else-l-old w ↦ omega arith ] in
    (so.changing.room, omega arith, small)

pub loop-k-preserved : goal.loop-k-preserved
loop-k-preserved c =
    let so = c.loop-k.invariant in
    let number : c.if-l-old.new ≡ renumbered c.loop-k.old c.loop-k.new c.level-l.result = elim c.if-l-old.branch [
      | then-l-old w ↦ w.new-is ∙ sym (other _ _ _ w.if-l-old.true)
      | else-l-old w ↦ w.new-is ∙ sym (same _ _ _ w.if-l-old.false)
    ] in
    let near : c.if-l-old.new ≤ c.loop-k.k + 1 = elim c.if-l-old.branch [ then-l-old w ↦ omega arith | else-l-old w ↦ omega arith ] in
    record {
      changing = change_turn _ _ _ _ _ _ so.changing _ _ _ c.loop-k-test.true c.relevel.ensures (renumber_one _ _ _ _ _ c.level-l.ensures.0 number);
      new = near;
    }

pub returns : goal.returns
unfolding renumber_levels
returns c = search (change_end, rules)
