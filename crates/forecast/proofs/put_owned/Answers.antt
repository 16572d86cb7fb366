-- `put_owned` meets its contract: a number more, where the record owns the offset.
use mathlib.Core.Path.{◌≡◌, refl, sym, ◌∙◌}
use native.Mathlib.Omega.{arith}
use native.Mathlib.Numerals.{add-one}
use lib.Dec.{eqb}
use lib.ListN.{get_or}
use borrow.Author.Tests.{eq-eqb, ne_eqb}
use Rattle.forecast.proofs.put_owned.Goals.{then-w-s, else-w-s}
use native.Mathlib.Nat.{div-le_self}
use Prim.Native.Nat.{ℕ, suc, ◌/◌, ◌+◌, ◌*◌, ◌≤◌, ◌<◌}
use Rattle.record.proofs.Pages.{slope-small}
use Rattle.forecast.specs.Forecast.{chosen}
use Rattle.forecast.proofs.Entering.{owned-start, owned-turn, owned-end}
use Rattle.forecast.proofs.put_owned.Goals as goal

pub loop-o-init : goal.loop-o-init
loop-o-init c = let pre = c.requires in owned-start _ _ _ _ _ _ pre.7 pre.5 _ refl

-- what is added at an offset is small
small : (k up o : ℕ) → k ≤ 256 → o ≤ 255 → up ≡ k * o + 255 → up ≤ 65535
small k up o few byte e = omega (arith, slope-small k o few (let h : o < 256 = omega arith in h))

pub overflow_mul-up : goal.overflow_mul-up
overflow_mul-up c = omega (arith, slope-small _ _ c.requires.4 (let h : c.args.s < 256 = omega arith in h))

pub overflow_add-up : goal.overflow_add-up
overflow_add-up c = omega (arith, slope-small _ _ c.requires.4 (let h : c.args.s < 256 = omega arith in h))

pub overflow_add-f : goal.overflow_add-f
overflow_add-f c = omega (arith, small _ _ _ c.requires.4 (omega arith) c.loop-o.invariant.2, div-le_self c.loop-o.up 256)

pub overflow_add-up-in-loop-o : goal.overflow_add-up-in-loop-o
overflow_add-up-in-loop-o c = omega (arith, small _ _ _ c.requires.4 (omega arith) c.loop-o.invariant.2)

pub loop-o-preserved : goal.loop-o-preserved
unfolding chosen
loop-o-preserved c =
    let pre = c.requires in
    let f : c.if-w-s.forecasts ≡ chosen (eqb c.owner-w.result (suc c.args.s)) (c.args.first + c.loop-o.up / 256) (get_or c.loop-o.forecasts c.loop-o.o 0) =
    elim c.if-w-s.branch [
      | then-w-s w ↦ w.forecasts-is ∙ rw (eq-eqb _ _ (w.if-w-s.true ∙ add-one _))
      | else-w-s w ↦ w.forecasts-is ∙ rw (ne_eqb _ _ (λ e. w.if-w-s.false (e ∙ sym (add-one _))))
    ] in
    owned-turn _ _ _ _ _ _ pre.7 pre.5 _ _ _ _ _ c.loop-o.invariant (omega arith) c.owner-w.ensures.0 f

pub returns : goal.returns
returns c = let pre = c.requires in owned-end _ _ _ _ _ _ pre.7 pre.5 _ _ _ c.loop-o.invariant c.loop-o-test.false
