-- Refused as the page's checks say; otherwise the page is marked.
use Rattle.std.proofs.Common.{arith}
use Rattle.answers.specs.Answers.{answer_by}
use Rattle.answers.proofs.Verdicts.{refused_first, passed_all}
use Rattle.state.specs.Reading.{read_state}
use Rattle.state.proofs.PageChecks.{opened-page}
use Rattle.upkeep.proofs.Discarding.{discard-refused, discard_done_lem}
use Rattle.upkeep.proofs.discard.discard.Goals as goal

pub returns-in-Err : goal.returns-in-Err
unfolding answer_by
returns-in-Err c = discard-refused _ _ _ _ (refused_first _ _ _ c.open_page.ensures _ c.in-Err.is)

pub mark-requires : goal.mark-requires
mark-requires c =
    let p = passed_all _ _ _ c.open_page.ensures _ c.in-Ok.is in
    let inside = opened-page (read_state c.args.state.now) c.args.spare.now c.args.page _ p.0 p.1 in
    (inside.0, omega (arith, inside.2))

pub returns : goal.returns
unfolding answer_by
returns c = discard_done_lem _ _ _ (passed_all _ _ _ c.open_page.ensures _ c.in-Ok.is).0 _ c.mark.ensures
