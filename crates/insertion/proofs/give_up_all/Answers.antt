-- `give_up_all` meets its contract: a slot more has had its turn.
use mathlib.Core.Path.{◌≡◌, ◌∙◌}
use Prim.Native.Nat.{◌+◌, ◌-◌}
use native.Mathlib.Omega.{arith}
use Rattle.insertion.proofs.GivingUp.{giving_start, giving_inside, giving_turn, giving_end}
use Rattle.insertion.proofs.give_up_all.Goals as goal

pub loop-init : goal.loop-init
loop-init c = record { noted = c.requires.3; giving = λ l shown. giving_start _ l _ _ shown (let e : c.used-n.result - 0 ≡ c.used-n.result = omega arith in e ∙ c.used-n.ensures.1) }

pub give_up-i-requires : goal.give_up-i-requires
give_up-i-requires c =
    let g = c.loop.invariant.giving c.requires.0.list c.requires.0.shown in
    (record { list = _; shown = g.shown }, giving_inside _ _ _ _ _ g (omega arith), c.requires.1, c.requires.2, c.loop.invariant.noted)

pub loop-preserved : goal.loop-preserved
loop-preserved c =
    let step = c.give_up-i.ensures in
    let less : c.used-n.result - (c.loop.counter + 1) ≡ c.used-n.result - c.loop.counter - 1 = omega arith in
    record { noted = step.0; giving = λ l shown. rw less (giving_turn _ l _ _ _ (c.loop.invariant.giving l shown) (omega arith) _ _ step.1) }

pub returns : goal.returns
returns c = λ l shown. giving_end _ l _ _ _ (c.loop.invariant.giving l shown) (omega arith)
