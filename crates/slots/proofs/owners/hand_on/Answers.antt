-- `hand_on` meets its contract: an owner more is handed on.
use mathlib.Core.Path.{◌≡◌, sym, ◌∙◌}
use Prim.Native.Nat.{suc, ◌<◌, ◌≤◌}
use native.Mathlib.Numerals.{add-one}
use native.Mathlib.Omega.{arith}
use borrow.Author.Tests.{eq-eqb, ne_eqb}
use Rattle.record.specs.Scan.{masked}
use Rattle.slots.specs.Owners.{either, handed_on}
use Rattle.slots.proofs.Owning.{on_named, on_other}
use Rattle.slots.proofs.owners.hand_on.Goals.{then-goes, else-goes, then-w-start, else-w-start}
use borrow.Author.Rules.{rules}
use Rattle.slots.proofs.OwnerPasses.{pass_start, pass_turn, pass_end}
use Rattle.slots.proofs.owners.hand_on.Goals as goal

pub loop-o-init : goal.loop-o-init
loop-o-init c = search (pass_start, rules)

pub set_owner-requires : goal.set_owner-requires
set_owner-requires c =
    let few : c.if-goes.heir ≤ 256 = elim c.if-goes.branch [
      | then-goes w ↦ omega arith
      | else-goes w ↦ omega arith
    ] in
    let small : c.if-w-start.v < 65536 = elim c.if-w-start.branch [
      | then-w-start w ↦ omega (arith, few)
      | else-w-start w ↦ omega arith
    ] in
    (c.loop-o.invariant.put.room, omega arith, small, c.loop-o.invariant.owned)

pub loop-o-preserved : goal.loop-o-preserved
unfolding either
loop-o-preserved c =
    let heir : c.if-goes.heir ≡ either (masked c.args.taken.now c.loop-o.o) 0 (suc c.args.to) = elim c.if-goes.branch [
      | then-goes w ↦ w.heir-is ∙ sym (rw (ne_eqb _ _ w.if-goes.true, either))
      | else-goes w ↦ w.heir-is ∙ add-one _ ∙ sym (rw (eq-eqb _ _ w.if-goes.false, either))
    ] in
    let v : c.if-w-start.v ≡ handed_on c.args.start (masked c.args.taken.now c.loop-o.o) c.args.to c.owner-w.result = elim c.if-w-start.branch [
      | then-w-start w ↦ w.v-is ∙ heir ∙ sym (on_named _ _ _ _ (w.if-w-start.true ∙ add-one _))
      | else-w-start w ↦ w.v-is ∙ sym (on_other _ _ _ _ (λ e. w.if-w-start.false (e ∙ sym (add-one _))))
    ] in
    pass_turn _ _ _ _ _ _ c.loop-o.invariant _ _ _ c.loop-o-test.true c.owner-w.ensures.0 v c.set_owner.ensures

pub returns : goal.returns
returns c = search (pass_end, rules)
