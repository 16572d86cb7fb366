-- The pages that no record holds are settled, and those held that don't go astray; the others are looked up.
use Rattle.std.proofs.Common.{arith, rules}
use Rattle.lookup.proofs.Grouped.{held_low, all_left}
use Rattle.lookup.proofs.pages.compare_same.Goals as goal

pub list_astray-n-requires : goal.list_astray-n-requires
list_astray-n-requires c =
    let pre = c.requires in
    let held = c.list_held-end.ensures in
    (pre.0, pre.2, search rules, omega (arith, held.few, pre.1), search rules, λ i h. let f = held.from i h in omega (arith, f.0, f.1, pre.1))

pub compare_listed-requires : goal.compare_listed-requires
compare_listed-requires c =
    let pre = c.requires in
    let held = c.list_held-end.ensures in
    let astray = c.list_astray-n.ensures in
    (pre.0, pre.2, search rules, omega (arith, astray.1, held.few, pre.1), astray.2)

pub returns : goal.returns
returns c p q tp tq =
    let m = c.args.m in
    let l = c.args.forecasts.now in
    let held = c.list_held-end.ensures in
    let low = held_low _ _ _ _ p q _ m l tp tq _ _ held in
    c.compare_listed.ensures p q m tp tq (all_left _ _ _ _ p q _ m l tp tq _ _ held _ _ (c.list_astray-n.ensures.0 p q m tp tq low))
