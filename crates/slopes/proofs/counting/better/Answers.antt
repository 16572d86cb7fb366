-- `better` meets its contract: what is counted over the intercepts that suit is the best run of each slope.
use Rattle.std.proofs.Common.{refl, sym, arith, ◌∙◌}
use Rattle.slopes.proofs.SomeOf.{some_none}
use Rattle.slopes.proofs.SlopesLeft.{left-takes}
use Rattle.slopes.proofs.Suited.{windows_low}
use Rattle.slopes.proofs.ChosenFits.{Judged, judged-small, judged-chosen, shorter}
use Rattle.slopes.proofs.Unbeaten.{bettered-short}
use Rattle.slopes.proofs.counting.better.Goals as goal

pub returns-then-not-some_left : goal.returns-then-not-some_left
returns-then-not-some_left c =
    let p = c.requires in
    let e = left-takes _ _ _ _ _ _ _ _ c.suit-suiting.ensures c.some_left.ensures in
    let none = some_none _ 32 (sym e ∙ c.if-not-some_left.true) in
    sym (bettered-short _ _ _ _ _ _ (λ k h. shorter c.args.s.now _ _ (omega (arith, p.0)) p.1 (none k h)))

pub count-requires : goal.count-requires
count-requires c =
    let p = c.requires in
    let so = c.args.s.now.seeking in
    let small = windows_low _ _ _ _ _ _ _ so.size (omega (arith, so, p.1, p.3)) c.suit-suiting.ensures in
    (p.2, p.3, p.0, small, c.find_widths-top.ensures.0, refl)

pub better_of-requires : goal.better_of-requires
better_of-requires c =
    let p = c.requires in
    let a = c.args in
    let i = c.suit-suiting.result in
    let so = a.s.now.seeking in
    let few = windows_low _ _ _ _ _ _ _ so.size (omega (arith, so, p.1, p.3)) c.suit-suiting.ensures in
    let j : Judged a.s.now a.f.size a.a c.find_widths-top.result i.low i.high c.find_widths-top.new.widths c.count.new.tally
    c.choose.new.most c.choose.new.choice =
    record { windows = c.suit-suiting.ensures; width = c.find_widths-top.ensures.1; tallied = c.count.ensures; chose = c.choose.ensures } in
    (p.0, few, judged-small a.s.now _ _ _ _ _ _ _ _ _ j p.0 p.1 p.3 p.4 c.find_widths-top.ensures.0)

pub returns : goal.returns
returns c =
    let p = c.requires in
    let a = c.args in
    let i = c.suit-suiting.result in
    let j : Judged a.s.now a.f.size a.a c.find_widths-top.result i.low i.high c.find_widths-top.new.widths c.count.new.tally
    c.choose.new.most c.choose.new.choice =
    record { windows = c.suit-suiting.ensures; width = c.find_widths-top.ensures.1; tallied = c.count.ensures; chose = c.choose.ensures } in
    c.better_of.ensures _ _ _ (judged-chosen a.s.now _ _ _ _ _ _ _ _ _ j p.0 p.1 p.3 p.4)
