-- 1, 2 or 3, then 8 or 6, by the laws of their returns; then the collection is carried out.
use Rattle.std.proofs.Common.{refl, sym}
use Rattle.std.proofs.lemmas.Result.{err_from_is_err_and}
use lib.Seq.{length-take-le}
use Rattle.answers.specs.Answers.{answer_by}
use Rattle.answers.proofs.Verdicts.{refused_first, passed_all}
use Rattle.choice.proofs.Deciding.{refused_then, taken_then}
use Rattle.plaincalls.proofs.Collecting.{admitted, tally-room, tallied, taken-room, taken-front, not_admitted, not_taken, collects}
use Rattle.plaincalls.proofs.collect.collect.Goals as goal

pub returns-in_err-d : goal.returns-in_err-d
unfolding answer_by
returns-in_err-d c =
    let p = err_from_is_err_and c.from_residual.result c.from_residual.ensures.1 in
    rw (p.1, p.2) (not_admitted _ _ _ _ (refused_first _ _ _ c.check.ensures.verdict _ c.in_err-d.was))

pub slice_bounds-tally-end : goal.slice_bounds-tally-end
slice_bounds-tally-end c =
    let p = passed_all _ _ _ c.check.ensures.verdict _ c.in_ok-d.was in
    tally-room _ c.args.plan.now c.args.erased.now _ (admitted c.args.state.now _ _ _ p).0 _ _ refl c.check.auto.tally (c.check.ensures.tally p.0)

pub slice_bounds-take-end : goal.slice_bounds-take-end
slice_bounds-take-end c =
    let p = passed_all _ _ _ c.check.ensures.verdict _ c.in_ok-d.was in
    sym (length-take-le _ _ (tally-room _ c.args.plan.now c.args.erased.now _ (admitted c.args.state.now _ _ _ p).0 _ _ refl c.check.auto.tally (c.check.ensures.tally p.0)))

pub take-requires : goal.take-requires
take-requires c =
    let p = passed_all _ _ _ c.check.ensures.verdict _ c.in_ok-d.was in
    let q = admitted c.args.state.now _ _ _ p in
    (q.0, q.2, tallied _ c.args.plan.now c.args.erased.now _ q.0 _ _ refl c.check.auto.tally (c.check.ensures.tally p.0))

pub returns-in_err-c : goal.returns-in_err-c
unfolding answer_by
returns-in_err-c c =
    let e = err_from_is_err_and c.from_residual-in_err-c.result c.from_residual-in_err-c.ensures.1 in
    let p = passed_all _ _ _ c.check.ensures.verdict _ c.in_ok-d.was in
    let r = refused_then _ _ _ c.take.ensures.0 _ _ c.take.ensures.1 _ c.in_err-c.was in
    rw (e.1, e.2) (not_taken _ _ _ p.0 _ r.0 _ r.1)

pub slice_bounds-carry_out-end : goal.slice_bounds-carry_out-end
slice_bounds-carry_out-end c =
    let p = passed_all _ _ _ c.check.ensures.verdict _ c.in_ok-d.was in
    let q = admitted c.args.state.now _ _ _ p in
    let t = taken_then _ _ _ c.take.ensures.0 _ _ c.take.ensures.1 _ c.in_ok-c.was in
    taken-room _ c.args.plan.now c.args.erased.now _ q.0 q.2 _ t.1 _ t.2

pub slice_bounds-carry_out-end-2 : goal.slice_bounds-carry_out-end-2
slice_bounds-carry_out-end-2 c =
    let p = passed_all _ _ _ c.check.ensures.verdict _ c.in_ok-d.was in
    let q = admitted c.args.state.now _ _ _ p in
    let t = taken_then _ _ _ c.take.ensures.0 _ _ c.take.ensures.1 _ c.in_ok-c.was in
    sym (length-take-le _ c.take.new.erased (taken-room _ c.args.plan.now c.args.erased.now _ q.0 q.2 _ t.1 _ t.2))

pub carry_out-requires : goal.carry_out-requires
carry_out-requires c =
    let p = passed_all _ _ _ c.check.ensures.verdict _ c.in_ok-d.was in
    let q = admitted c.args.state.now _ _ _ p in
    let t = taken_then _ _ _ c.take.ensures.0 _ _ c.take.ensures.1 _ c.in_ok-c.was in
    (q.0, q.1, taken-front _ c.args.plan.now c.args.erased.now _ q.0 q.2 _ t.1 _ t.2)

pub returns : goal.returns
returns c =
    let p = passed_all _ _ _ c.check.ensures.verdict _ c.in_ok-d.was in
    let t = taken_then _ _ _ c.take.ensures.0 _ _ c.take.ensures.1 _ c.in_ok-c.was in
    let made = c.carry_out.ensures in
    collects _ _ _ p.0 t.0 _ _ _ _ made.answer made.table made.plan t.2
