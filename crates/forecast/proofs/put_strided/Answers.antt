-- `put_strided` meets its contract: a number more, and the next is one more.
use Prim.Native.Nat.{◌-◌}
use borrow.Author.Rules.{rules}
use native.Mathlib.Omega.{arith}
use native.Mathlib.Nat.{div-le_self}
use Rattle.forecast.proofs.Entering.{strided-start, strided-turn, strided-end}
use Rattle.forecast.proofs.put_strided.Goals as goal

pub loop-o-init : goal.loop-o-init
loop-o-init c = search (strided-start, rules)

pub overflow_add-f : goal.overflow_add-f
overflow_add-f c = let pre = c.requires in omega (arith, c.loop-o.invariant.3, div-le_self (c.loop-o.o - c.args.s) c.args.d, c.loop-o-test.true, pre.3, pre.4)

pub loop-o-preserved : goal.loop-o-preserved
loop-o-preserved c = search (strided-turn, rules)

pub returns : goal.returns
returns c = let pre = c.requires in strided-end _ _ _ _ _ pre.0 pre.3 pre.1 _ _ _ c.loop-o.invariant c.loop-o-test.false
