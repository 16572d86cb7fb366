-- Refused as the page's checks say; otherwise the answer is the lookup's.
use Rattle.std.proofs.lemmas.Result.{err_from_is_err_and}
use Rattle.answers.specs.Answers.{answer_by}
use Rattle.answers.proofs.Verdicts.{refused_first, passed_all}
use Rattle.state.specs.Reading.{read_state}
use Rattle.state.proofs.PageChecks.{opened-page}
use Rattle.lookup.proofs.Looking.{lookup-refused, lookup-answers}
use Rattle.lookup.proofs.lookup.lookup.Goals as goal

pub returns-in_err-d : goal.returns-in_err-d
unfolding answer_by
returns-in_err-d c =
    let p = err_from_is_err_and c.from_residual.result c.from_residual.ensures.1 in
    rw (p.1, p.2) (lookup-refused _ _ _ _ (refused_first _ _ _ c.open_page.ensures _ c.in_err-d.was))

pub seek-requires : goal.seek-requires
seek-requires c =
    let p = passed_all _ (read_state c.args.state.now).device _ c.open_page.ensures _ c.in_ok-d.was in
    opened-page (read_state c.args.state.now) c.args.spare.now _ _ p.0 p.1

pub returns : goal.returns
returns c =
    let p = passed_all _ (read_state c.args.state.now).device _ c.open_page.ensures _ c.in_ok-d.was in
    lookup-answers _ _ _ p.0 _ c.seek.ensures
