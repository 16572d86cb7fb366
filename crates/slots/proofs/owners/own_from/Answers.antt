-- `own_from` meets its contract: an owner more is new.
use mathlib.Core.Path.{◌≡◌, ◌∙◌}
use Prim.Native.Nat.{◌<◌}
use native.Mathlib.Numerals.{add-one}
use native.Mathlib.Omega.{arith}
use borrow.Author.Tests.{eq-eqb, ne_eqb}
use Rattle.record.specs.Scan.{masked}
use Rattle.slots.specs.Owners.{either, taken_by}
use Rattle.slots.proofs.owners.own_from.Goals.{then-mask-o-ne0, else-mask-o-ne0}
use borrow.Author.Rules.{rules}
use Rattle.slots.proofs.OwnerPasses.{pass_start, pass_turn, pass_end}
use Rattle.slots.proofs.owners.own_from.Goals as goal

pub loop-o-init : goal.loop-o-init
loop-o-init c = search (pass_start, rules)

pub set_owner-requires : goal.set_owner-requires
set_owner-requires c =
    let small : c.if-mask-o-ne0.v < 65536 = elim c.if-mask-o-ne0.branch [ then-mask-o-ne0 w ↦ omega arith | else-mask-o-ne0 w ↦ omega arith ] in
    (c.loop-o.invariant.put.room, omega arith, small, c.loop-o.invariant.owned)

pub loop-o-preserved : goal.loop-o-preserved
unfolding taken_by either
loop-o-preserved c =
    let v : c.if-mask-o-ne0.v ≡ taken_by c.args.start (masked c.args.mask.now c.loop-o.o) c.owner-w.result = elim c.if-mask-o-ne0.branch [
      | then-mask-o-ne0 w ↦ w.v-is ∙ rw (ne_eqb _ _ w.if-mask-o-ne0.true, either) (add-one _)
      | else-mask-o-ne0 w ↦ w.v-is ∙ rw (eq-eqb _ _ w.if-mask-o-ne0.false, either)
    ] in
    pass_turn _ _ _ _ _ _ c.loop-o.invariant _ _ _ c.loop-o-test.true c.owner-w.ensures.0 v c.set_owner.ensures

pub returns : goal.returns
returns c = search (pass_end, rules)
