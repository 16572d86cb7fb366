-- Refused as the page's checks say; otherwise its entry is cleared.
use Rattle.std.proofs.Common.{arith}
use Rattle.std.proofs.lemmas.Result.{err_from_is_err_and}
use Rattle.plain.specs.Table.{no_page}
use Rattle.answers.specs.Answers.{answer_by}
use Rattle.answers.proofs.Verdicts.{refused_first, passed_all}
use Rattle.plainstate.proofs.Refusing.{opened-page}
use Rattle.plaincalls.proofs.Discarding.{discard-refused, discard_done_lem}
use Rattle.plaincalls.proofs.discard.discard.Goals as goal

pub returns-in_err-d : goal.returns-in_err-d
unfolding answer_by
returns-in_err-d c =
    let p = err_from_is_err_and c.from_residual.result c.from_residual.ensures.1 in
    rw (p.1, p.2) (discard-refused _ _ _ (refused_first _ _ _ c.open_page.ensures _ c.in_err-d.was))

pub set_entry-requires : goal.set_entry-requires
set_entry-requires c =
    let p = passed_all _ _ _ c.open_page.ensures _ c.in_ok-d.was in
    let q = opened-page _ c.args.page _ p.0 p.1 in
    (q.0, omega (arith, q.1))

pub returns : goal.returns
unfolding answer_by no_page
returns c = discard_done_lem _ _ (passed_all _ _ _ c.open_page.ensures _ c.in_ok-d.was).0 _ c.set_entry.ensures
