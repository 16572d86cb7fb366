-- The state is opened or not; then the logical page and its entry decide.
use Rattle.std.proofs.Common.{sym, ap, ◌∙◌}
use Rattle.std.proofs.lemmas.Result.{err_from_is_err_and}
use Rattle.plain.specs.Table.{no_page, sound_entry}
use Rattle.answers.specs.Answers.{refusal_of, answer_by, plainly_found}
use Rattle.answers.proofs.Verdicts.{refused_first, passed_all}
use Rattle.plainstate.specs.Reading.{read_table}
use Rattle.plainstate.proofs.Refusing.{opened-shape, page-closed, no_page_lem, page_unsound, page-clear}
use Rattle.plaincalls.proofs.Looking.{lookup-refused, lookup-misses, lookup-finds}
use Rattle.plaincalls.proofs.lookup.lookup.Goals as goal

pub returns-in_err-d : goal.returns-in_err-d
unfolding answer_by
returns-in_err-d c =
    let p = err_from_is_err_and c.from_residual.result c.from_residual.ensures.1 in
    rw (p.1, p.2) (lookup-refused _ _ _ (page-closed _ _ _ (refused_first _ _ _ c.open_table.ensures _ c.in_err-d.was)))

pub returns-then-d-page : goal.returns-then-d-page
unfolding answer_by refusal_of
returns-then-d-page c = lookup-refused _ _ _ (no_page_lem _ _ _ (passed_all _ _ _ c.open_table.ensures _ c.in_ok-d.was) c.if-d-page.true)

pub entry-e-requires : goal.entry-e-requires
entry-e-requires c =
    let p = passed_all _ _ _ c.open_table.ensures _ c.in_ok-d.was in
    (opened-shape _ _ p.0 p.1, c.if-d-page.false)

pub entry_sound-requires : goal.entry_sound-requires
entry_sound-requires c =
    let p = passed_all _ _ _ c.open_table.ensures _ c.in_ok-d.was in
    opened-shape _ _ p.0 p.1

pub returns-then-not-entry_sound : goal.returns-then-not-entry_sound
unfolding answer_by refusal_of
returns-then-not-entry_sound c =
    let tested = c.entry_sound.ensures ∙ ap (sound_entry (read_table c.args.state.now)) c.entry-e.ensures in
    lookup-refused _ _ _ (page_unsound _ _ _ (passed_all _ _ _ c.open_table.ensures _ c.in_ok-d.was) c.if-d-page.false (sym tested ∙ c.if-not-entry_sound.true))

pub returns-then-e : goal.returns-then-e
unfolding answer_by plainly_found no_page
returns-then-e c =
    let tested = c.entry_sound.ensures ∙ ap (sound_entry (read_table c.args.state.now)) c.entry-e.ensures in
    let clear = page-clear _ _ _ (passed_all _ _ _ c.open_table.ensures _ c.in_ok-d.was) c.if-d-page.false (sym tested ∙ c.if-not-entry_sound.false) in
    lookup-misses _ _ clear _ c.entry-e.ensures c.if-e.true

pub returns : goal.returns
unfolding answer_by plainly_found no_page
returns c =
    let tested = c.entry_sound.ensures ∙ ap (sound_entry (read_table c.args.state.now)) c.entry-e.ensures in
    let clear = page-clear _ _ _ (passed_all _ _ _ c.open_table.ensures _ c.in_ok-d.was) c.if-d-page.false (sym tested ∙ c.if-not-entry_sound.false) in
    lookup-finds _ _ clear _ c.entry-e.ensures c.if-e.false
