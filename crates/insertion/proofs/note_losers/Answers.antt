-- `note_losers` meets its contract: an owner more is noted, where its offset is taken.
use borrow.Author.Rules.{rules}
use native.Mathlib.Omega.{arith}
use mathlib.Core.Path.{◌≡◌, ◌∙◌}
use mathlib.Core.Bool.{not}
use Prim.Native.Nat.{ℕ}
use lib.Dec.{eqb}
use borrow.Author.Tests.{eq-eqb, ne_eqb}
use Rattle.record.specs.Scan.{masked}
use Rattle.slots.specs.Owners.{either}
use Rattle.insertion.proofs.note_losers.Goals.{then-mask-o-ne0, else-mask-o-ne0}
use Rattle.insertion.proofs.Noting.{tally-start, tally-low, tally-inside, tally-turn, tally-end}
use Rattle.insertion.proofs.note_losers.Goals as goal

-- an owner counts where its offset is taken
chosen : (x w : ℕ) → (x ≡ 0 → ⊥) → w ≡ either (not (eqb x 0)) w 0
unfolding either
chosen x w f = rw (ne_eqb x 0 f, either)

nobody : (x w : ℕ) → x ≡ 0 → 0 ≡ either (not (eqb x 0)) w 0
unfolding either
nobody x w e = rw (eq-eqb x 0 e, either)

pub loop-o-init : goal.loop-o-init
loop-o-init c = search (tally-start, rules)

pub bounds-losers-l : goal.bounds-losers-l
bounds-losers-l c =
    let l : c.if-mask-o-ne0.l ≡ either (masked c.args.mask.now c.loop-o.o) c.owner-w.result 0 =
    elim c.if-mask-o-ne0.branch [ then-mask-o-ne0 w ↦ w.l-is ∙ chosen _ _ w.if-mask-o-ne0.true | else-mask-o-ne0 w ↦ w.l-is ∙ nobody _ _ w.if-mask-o-ne0.false ] in
    tally-inside _ _ _ _ _ _ _ _ c.loop-o.invariant (omega arith) c.requires.5 c.owner-w.ensures.0 l

pub overflow_add-any : goal.overflow_add-any
overflow_add-any c =
    let l : c.if-mask-o-ne0.l ≡ either (masked c.args.mask.now c.loop-o.o) c.owner-w.result 0 =
    elim c.if-mask-o-ne0.branch [ then-mask-o-ne0 w ↦ w.l-is ∙ chosen _ _ w.if-mask-o-ne0.true | else-mask-o-ne0 w ↦ w.l-is ∙ nobody _ _ w.if-mask-o-ne0.false ] in
    let so = c.loop-o.invariant in
    let low = tally-low _ _ _ _ _ _ _ _ so (omega arith) c.requires.5 c.owner-w.ensures.0 l in
    omega (arith, so.sum)

pub loop-o-preserved : goal.loop-o-preserved
loop-o-preserved c =
    let l : c.if-mask-o-ne0.l ≡ either (masked c.args.mask.now c.loop-o.o) c.owner-w.result 0 =
    elim c.if-mask-o-ne0.branch [ then-mask-o-ne0 w ↦ w.l-is ∙ chosen _ _ w.if-mask-o-ne0.true | else-mask-o-ne0 w ↦ w.l-is ∙ nobody _ _ w.if-mask-o-ne0.false ] in
    tally-turn _ _ _ _ _ _ _ _ c.loop-o.invariant (omega arith) c.requires.5 c.owner-w.ensures.0 l

pub returns : goal.returns
returns c = search (tally-end, rules)
