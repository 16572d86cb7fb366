-- `unowned` meets its contract: an owner more is taken with those before it.
use mathlib.Core.Path.{refl, sym, ◌∙◌}
use native.Mathlib.Omega.{arith}
use Rattle.group.proofs.Turns.{any_turn, any_done}
use Rattle.group.proofs.unowned.Goals as goal

pub loop-w-init : goal.loop-w-init
loop-w-init c = refl

pub loop-w-preserved : goal.loop-w-preserved
loop-w-preserved c = c.loop-w.invariant ∙ any_turn _ 256 c.loop-w.any _ (omega arith) _ refl

pub returns : goal.returns
returns c = sym (c.loop-w.invariant ∙ any_done _ 256 c.loop-w.any _ (omega arith))
