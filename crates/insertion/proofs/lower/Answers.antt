-- `lower` meets its contract: a new level, or a place of level 1.
use native.Mathlib.Omega.{arith}
use borrow.Author.Rules.{rules}
use Rattle.insertion.proofs.Lowering.{laid_before, laid_inside, laid_low, lower_joins, lower_opens, pushed_room}
use Rattle.insertion.proofs.lower.Goals as goal

pub skip-p-requires : goal.skip-p-requires
skip-p-requires c = search (laid_inside, rules)

pub push_down-requires : goal.push_down-requires
push_down-requires c = search (laid_low, rules)

pub shift-requires : goal.shift-requires
shift-requires c =
    let q = c.requires.0 in
    let pushed = c.push_down.ensures in
    let n = pushed_room _ _ _ q _ pushed in
    ((pushed.0, omega (arith, n, q.room.1)), laid_before _ _ _ q, omega (arith, n, laid_inside _ _ _ q), (omega arith, c.requires.1))

pub returns-then-meets_there : goal.returns-then-meets_there
returns-then-meets_there c = λ q L.
    lower_opens _ _ _ q _ L _ c.skip-p.ensures.1 _ c.meets_there.ensures c.if-meets_there.true _ _ c.push_down.ensures c.shift.ensures

pub shift-requires-else-meets_there : goal.shift-requires-else-meets_there
shift-requires-else-meets_there c =
    let q = c.requires.0 in
    let p = c.skip-p.ensures in
    (q.room, omega (arith, laid_before _ _ _ q, p.1), p.0, (omega arith, c.requires.1))

pub returns-else-meets_there : goal.returns-else-meets_there
returns-else-meets_there c = λ q L.
    lower_joins _ _ _ q _ L _ c.skip-p.ensures.1 _ c.meets_there.ensures c.if-meets_there.false _ c.shift-else-meets_there.ensures
