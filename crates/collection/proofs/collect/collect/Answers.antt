-- 1, 2 or 3, then 8 or 6, by the laws of their returns; then the collection is carried out.
use Rattle.std.proofs.Common.{sym, ap, ◌∙◌, arith}
use Rattle.std.proofs.lemmas.Result.{err_from_is_err_and}
use lib.Seq.{length-take-le}
use Rattle.model.specs.Lists.{store}
use Rattle.calls.specs.History.{lend}
use Rattle.answers.specs.Answers.{answer_by}
use Rattle.answers.proofs.Verdicts.{refused_first, passed_all}
use Rattle.choice.proofs.Deciding.{refused_then, taken_then}
use Rattle.collection.proofs.Ending.{admitted, listed-few, listed_front, not_admitted, not_taken, collects}
use Rattle.collection.proofs.collect.collect.Goals as goal

pub returns-in_err-d : goal.returns-in_err-d
unfolding answer_by
returns-in_err-d c =
    let p = err_from_is_err_and c.from_residual.result c.from_residual.ensures.1 in
    rw (p.1, p.2) (not_admitted _ _ _ _ _ (refused_first _ _ _ c.check.ensures _ c.in_err-d.was))

pub take-requires : goal.take-requires
take-requires c =
    let p = admitted c.args.state.now c.args.spare.now _ _ _ (passed_all _ _ _ c.check.ensures _ c.in_ok-d.was) in
    (p.0, p.2)

pub returns-in_err-c : goal.returns-in_err-c
unfolding answer_by
returns-in_err-c c =
    let p = err_from_is_err_and c.from_residual-in_err-c.result c.from_residual-in_err-c.ensures.1 in
    let made = c.take.ensures in
    let r = refused_then _ _ _ made.0 _ _ made.1 _ c.in_err-c.was in
    rw (p.1, p.2) (not_taken _ _ _ _ (passed_all _ _ _ c.check.ensures _ c.in_ok-d.was).0 _ r.0 _ r.1)

pub slice_bounds-carry_out-end : goal.slice_bounds-carry_out-end
slice_bounds-carry_out-end c =
    let made = c.take.ensures in
    let t = taken_then _ _ _ made.0 _ _ made.1 _ c.in_ok-c.was in
    omega (arith, listed-few c.args.state.now c.args.spare.now _ _ _ (passed_all _ _ _ c.check.ensures _ c.in_ok-d.was) _ _ t.1 t.2)

pub slice_bounds-carry_out-end-2 : goal.slice_bounds-carry_out-end-2
slice_bounds-carry_out-end-2 c =
    let made = c.take.ensures in
    let t = taken_then _ _ _ made.0 _ _ made.1 _ c.in_ok-c.was in
    let few = listed-few c.args.state.now c.args.spare.now _ _ _ (passed_all _ _ _ c.check.ensures _ c.in_ok-d.was) _ _ t.1 t.2 in
    sym (length-take-le _ c.take.new.erased (omega arith))

pub carry_out-requires : goal.carry_out-requires
carry_out-requires c =
    let made = c.take.ensures in
    let t = taken_then _ _ _ made.0 _ _ made.1 _ c.in_ok-c.was in
    let clear = passed_all _ _ _ c.check.ensures _ c.in_ok-d.was in
    let p = admitted c.args.state.now c.args.spare.now _ _ _ clear in
    (p.0, p.1, listed_front c.args.state.now c.args.spare.now _ _ _ clear _ _ t.1 t.2)

pub returns : goal.returns
returns c =
    let made = c.take.ensures in
    let t = taken_then _ _ _ made.0 _ _ made.1 _ c.in_ok-c.was in
    let clear = passed_all _ _ _ c.check.ensures _ c.in_ok-d.was in
    let same = t.2 ∙ ap (store c.args.erased.now 0) (sym (listed_front c.args.state.now c.args.spare.now _ _ _ clear _ _ t.1 t.2)) in
    collects _ _ _ _ clear.0 t.0 _ _ _ _ _ (c.carry_out.ensures.answer _) (ap (lend _ _ _) same ∙ c.carry_out.ensures.left _)
