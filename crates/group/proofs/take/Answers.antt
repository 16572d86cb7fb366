-- `take` meets its contract: at each offset the owner that stands there is written without the name.
use mathlib.Core.Path.{◌≡◌, sym, ap, ◌∙◌}
use Prim.Native.Nat.{ℕ, suc, ◌+◌, ◌-◌}
use native.Mathlib.Omega.{arith}
use lib.ListN.{get_or}
use Rattle.group.specs.Checking.{unnamed, without}
use Rattle.group.proofs.Tests.{unnamed_same, unnamed_other}
use Rattle.group.proofs.Turns.{name_turn, name_done}
use Rattle.group.proofs.take.Goals as goal
use Rattle.group.proofs.take.Goals.{then-v-name, else-v-name}

pub loop-o-init : goal.loop-o-init
loop-o-init c =
    let e : suc (c.args.last - c.args.first) ≡ c.args.last + 1 - c.args.first = omega arith in
    ap (λ (n : ℕ). without c.args.name n c.args.first c.args.owners.now) e

pub loop-o-preserved : goal.loop-o-preserved
loop-o-preserved c =
    let v : c.if-v-name.owners ≡ unnamed c.args.name (get_or c.loop-o.owners c.loop-o.o 0) =
    elim c.if-v-name.branch [ then-v-name w ↦ w.owners-is ∙ unnamed_same _ _ w.if-v-name.true | else-v-name w ↦ w.owners-is ∙ unnamed_other _ _ w.if-v-name.false ] in
    c.loop-o.invariant ∙ name_turn _ _ _ _ c.loop-o-test.true _ v

pub returns-after-v-name : goal.returns-after-v-name
returns-after-v-name c =
    let v : c.if-v-name.owners ≡ unnamed c.args.name (get_or c.loop-o.owners c.loop-o.o 0) =
    elim c.if-v-name.branch [ then-v-name w ↦ w.owners-is ∙ unnamed_same _ _ w.if-v-name.true | else-v-name w ↦ w.owners-is ∙ unnamed_other _ _ w.if-v-name.false ] in
    sym (c.loop-o.invariant ∙ name_turn _ _ _ _ c.loop-o-test.true _ v ∙ name_done c.args.name c.args.last (c.loop-o.o + 1) _ (omega arith))
