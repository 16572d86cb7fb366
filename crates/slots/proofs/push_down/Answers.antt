-- `push_down` meets its contract: a slot more is pushed down.
use borrow.Author.Rules.{rules}
use native.Mathlib.Omega.{arith}
use Rattle.slots.specs.Edits.{push_down_from}
use Rattle.slots.proofs.SlotPass.{push-behind, change_start, change_turn, change_end, down_start, down_turn, push_one}
use Rattle.slots.proofs.push_down.Goals as goal

pub loop-j-init : goal.loop-j-init
loop-j-init c = record { changing = search (change_start, push-behind, rules); lowerable = search (down_start, rules) }

pub level-l-requires : goal.level-l-requires
level-l-requires c = let count = c.loop-j.invariant.changing.count in (c.loop-j.invariant.changing.room, omega arith)

pub relevel-requires : goal.relevel-requires
relevel-requires c =
    let so = c.loop-j in
    let count = so.invariant.changing.count in
    let low = so.invariant.lowerable so.j (omega arith) (omega arith) in
    (so.invariant.changing.room, omega arith, omega (arith, c.level-l.ensures.0))

pub loop-j-preserved : goal.loop-j-preserved
loop-j-preserved c =
    let so = c.loop-j.invariant in
    let done = c.relevel.ensures in
    record {
      changing = change_turn _ _ _ _ _ _ so.changing _ _ _ c.loop-j-test.true done (push_one _ _ c.level-l.ensures.0);
      lowerable = down_turn _ _ _ _ _ done.1 so.lowerable;
    }

pub returns : goal.returns
unfolding push_down_from
returns c = search (change_end, rules)
