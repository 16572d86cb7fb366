use Rattle.std.proofs.Common.{◌≡◌, ◌<◌, ◌+◌, get_or, take, sym, ap, ◌∙◌, arith}
use Rattle.std.specs.Prelude.{Ok}
use Rattle.std.proofs.lemmas.List.{get_or-take, length-take-le}
use Rattle.calls.specs.Agreement.{is_named, alike}
use Rattle.answers.specs.Answers.{answer_by, refusal_of, lookup_answer, as_looked}
use Rattle.state.proofs.Seeking.{looked_is}
use Rattle.lookup.proofs.Comparing.{equal_is, named_is, refusal_is}
use Rattle.lookup.proofs.Told.{first_refuses, second-refuses, told-start, told-turn, told-end}
use Rattle.lookup.proofs.pages.compare_listed.Goals as goal

pub loop-o-init : goal.loop-o-init
loop-o-init c p q m tp tq left = told-start p q _ m _

pub returns-in_default : goal.returns-in_default
unfolding answer_by refusal_of
returns-in_default c p q m tp tq left =
    let all = length-take-le c.args.n c.args.list.now (omega (arith, c.requires.2, c.requires.3)) in
    let before : c.loop-o.o-index < c.args.n = omega (arith, all, c.loop-o-test.true) in
    let is : get_or (take c.args.n c.args.list.now) c.loop-o.o-index 0 ≡ get_or c.args.list.now c.loop-o.o-index 0 = get_or-take _ _ _ 0 before in
    let seven = refusal_is _ _ (ap lookup_answer (sym c.in_default.is) ∙ (rw (c.from.ensures, c.from-in-loop-o.ensures, is) at c.told.ensures) _ (tp _ (left.low _ before))) in
    first_refuses p q _ m _ (left.low _ before) seven.1

pub returns-in_default-told : goal.returns-in_default-told
unfolding answer_by refusal_of
returns-in_default-told c p q m tp tq left =
    let all = length-take-le c.args.n c.args.list.now (omega (arith, c.requires.2, c.requires.3)) in
    let before : c.loop-o.o-index < c.args.n = omega (arith, all, c.loop-o-test.true) in
    let is : get_or (take c.args.n c.args.list.now) c.loop-o.o-index 0 ≡ get_or c.args.list.now c.loop-o.o-index 0 = get_or-take _ _ _ 0 before in
    let seven = refusal_is _ _ (ap lookup_answer (sym c.in_default-told.is) ∙ (rw (c.from.ensures, c.from-in-loop-o.ensures, is) at c.told-in-loop-o.ensures) _ (tq _ (left.low _ before))) in
    second-refuses p q _ m _ (left.low _ before) seven.1

pub loop-o-preserved : goal.loop-o-preserved
loop-o-preserved c p q m tp tq left =
    let all = length-take-le c.args.n c.args.list.now (omega (arith, c.requires.2, c.requires.3)) in
    let before : c.loop-o.o-index < c.args.n = omega (arith, all, c.loop-o-test.true) in
    let is : get_or (take c.args.n c.args.list.now) c.loop-o.o-index 0 ≡ get_or c.args.list.now c.loop-o.o-index 0 = get_or-take _ _ _ 0 before in
    let o = get_or c.args.list.now c.loop-o.o-index 0 in
    let first : as_looked (Ok c.in-Ok.first) ≡ p (c.args.x + o) = ap as_looked (sym c.in-Ok.is) ∙ looked_is _ _ ((rw (c.from.ensures, c.from-in-loop-o.ensures, is) at c.told.ensures) _ (tp _ (left.low _ before))) in
    let second : as_looked (Ok c.in-Ok-told.second) ≡ q (c.args.x + o) = ap as_looked (sym c.in-Ok-told.is) ∙ looked_is _ _ ((rw (c.from.ensures, c.from-in-loop-o.ensures, is) at c.told-in-loop-o.ensures) _ (tq _ (left.low _ before))) in
    told-turn p q _ m _ _ _ _ (c.loop-o.invariant p q m tp tq left)
    (ap is_named (sym first) ∙ named_is c.in-Ok.first)
    (ap is_named (sym second) ∙ named_is c.in-Ok-told.second)
    (c.eq-same.ensures ∙ equal_is c.in-Ok.first c.in-Ok-told.second ∙ ap (λ z. alike z (as_looked (Ok c.in-Ok-told.second))) first ∙ ap (alike _) second)

pub returns : goal.returns
unfolding answer_by
returns c p q m tp tq left =
    let all = length-take-le c.args.n c.args.list.now (omega (arith, c.requires.2, c.requires.3)) in
    let ended : c.loop-o.o-index ≡ c.args.n = omega (arith, all, c.loop-o-test.false) in
    told-end p q _ m _ _ left c.loop-o.same (rw ended at (c.loop-o.invariant p q m tp tq left))
