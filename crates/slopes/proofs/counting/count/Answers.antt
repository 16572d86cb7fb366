-- `count` meets its contract: at each turn m pages were counted.
use Rattle.std.proofs.Common.{arith}
use Rattle.slopes.proofs.Tallies.{tallied_start, tallied_small, tallied_turn, tallied_end}
use Rattle.slopes.proofs.counting.count.Goals as goal

pub loop-m-init : goal.loop-m-init
loop-m-init c = tallied_start _ _ _ _ _ _ c.requires.4 _ c.requires.5

pub count_rows-requires : goal.count_rows-requires
count_rows-requires c =
    let p = c.requires in
    let t = c.loop-m.invariant in
    (t.long, p.4, tallied_small _ _ _ _ _ _ p.4 _ _ _ t c.fill_rows.ensures p.0)

pub loop-m-preserved : goal.loop-m-preserved
loop-m-preserved c =
    let e = c.count_rows.ensures in
    tallied_turn _ _ _ _ _ _ c.requires.4 _ _ _ c.loop-m.invariant c.fill_rows.ensures _ e.0 e.1

pub returns : goal.returns
returns c = tallied_end _ _ _ _ _ _ c.requires.4 _ _ c.loop-m-test.false c.loop-m.invariant

pub returns-2 : goal.returns-2
returns-2 c =
    let e = c.count_rows.ensures in
    let few = c.requires.4 in
    tallied_end _ _ _ _ _ _ few _ _ (omega arith) (tallied_turn _ _ _ _ _ _ few _ _ _ c.loop-m.invariant c.fill_rows.ensures _ e.0 e.1)
