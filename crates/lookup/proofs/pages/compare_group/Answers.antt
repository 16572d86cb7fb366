-- Where the forecasts are the same, what that comes to; otherwise no, unless a lookup refuses 7.
use Rattle.std.proofs.Common.{◌∙◌}
use Rattle.std.proofs.lemmas.Result.{err_from_is_err_and}
use Rattle.model.specs.Device.{pages}
use Rattle.front.specs.Read.{numbers_of}
use Rattle.answers.specs.Answers.{answer_by}
use Rattle.state.proofs.Places.{pages-small}
use Rattle.lookup.proofs.Grouped.{self_answers, self_refuses, first_seven, second_seven, differ_no}
use Rattle.lookup.proofs.pages.compare_group.Goals as goal

pub returns-then-same_forecasts : goal.returns-then-same_forecasts
returns-then-same_forecasts c p q tp tq =
    c.compare_same.ensures p q tp (λ o h. rw (c.same_forecasts.ensures.yes c.if-same_forecasts.true o h) (tq o h))

pub returns-in_err-compare_same : goal.returns-in_err-compare_same
unfolding answer_by
returns-in_err-compare_same c p q tp tq =
    let e = err_from_is_err_and c.from_residual.result c.from_residual.ensures.1 in
    let seven = self_refuses p c.args.x c.args.m _ (c.in_err-compare_same.ensures p p tp tp) in
    rw (e.1, e.2) (seven.0 ∙ first_seven p c.args.x c.args.m seven.1 q)

pub returns-in_err-compare_same-2 : goal.returns-in_err-compare_same-2
unfolding answer_by
returns-in_err-compare_same-2 c p q tp tq =
    let e = err_from_is_err_and c.from_residual-in_err-compare_same-2.result c.from_residual-in_err-compare_same-2.ensures.1 in
    let seven = self_refuses q c.args.x c.args.m _ (c.in_err-compare_same-2.ensures q q tq tq) in
    rw (e.1, e.2) (seven.0 ∙ second_seven q c.args.x c.args.m seven.1 p)

pub returns : goal.returns
unfolding answer_by pages
returns c p q tp tq =
    differ_no _ _ (pages-small (numbers_of c.args.a.d) c.args.a.d.limits) (pages-small (numbers_of c.args.b.d) c.args.b.d.limits) _ _ p q c.args.x c.args.m c.args.first.now c.args.second.now tp tq
    (self_answers p c.args.x c.args.m _ (c.in_ok-compare_same.ensures p p tp tp))
    (self_answers q c.args.x c.args.m _ (c.in_ok-compare_same-2.ensures q q tq tq))
    (c.same_forecasts.ensures.no c.if-same_forecasts.false)
