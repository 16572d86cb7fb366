-- The state is opened or not; then the logical page and its entry decide.
use Rattle.std.proofs.Common.{sym, ap, ◌∙◌}
use Rattle.std.proofs.lemmas.Result.{err_from_is_err_and}
use Rattle.plain.specs.Table.{sound_entry}
use Rattle.answers.specs.Answers.{refusal_of}
use Rattle.answers.specs.Opening.{verdict_of}
use Rattle.answers.proofs.Verdicts.{says-refused, says-passed, refused_first, passed_all}
use Rattle.plainstate.specs.Reading.{read_table}
use Rattle.plainstate.proofs.Refusing.{opened-shape, page-closed, no_page_lem, page_unsound, page-clear}
use Rattle.plainstate.proofs.opening.open_page.Goals as goal

pub returns-in_err-d : goal.returns-in_err-d
unfolding verdict_of
returns-in_err-d c =
    let p = err_from_is_err_and c.from_residual.result c.from_residual.ensures.1 in
    rw (p.1, p.2) (says-refused _ _ (page-closed _ _ _ (refused_first _ _ _ c.open_table.ensures _ c.in_err-d.was)))

pub returns-then-d-x : goal.returns-then-d-x
unfolding verdict_of refusal_of
returns-then-d-x c =
    says-refused _ _ (no_page_lem _ _ _ (passed_all _ _ _ c.open_table.ensures _ c.in_ok-d.was) c.if-d-x.true)

pub entry-e-requires : goal.entry-e-requires
entry-e-requires c =
    let p = passed_all _ _ _ c.open_table.ensures _ c.in_ok-d.was in
    (opened-shape _ _ p.0 p.1, c.if-d-x.false)

pub entry_sound-requires : goal.entry_sound-requires
entry_sound-requires c =
    let p = passed_all _ _ _ c.open_table.ensures _ c.in_ok-d.was in
    opened-shape _ _ p.0 p.1

pub returns-then-not-entry_sound : goal.returns-then-not-entry_sound
unfolding verdict_of refusal_of
returns-then-not-entry_sound c =
    let tested = c.entry_sound.ensures ∙ ap (sound_entry (read_table c.args.state.now)) c.entry-e.ensures in
    says-refused _ _ (page_unsound _ _ _ (passed_all _ _ _ c.open_table.ensures _ c.in_ok-d.was) c.if-d-x.false (sym tested ∙ c.if-not-entry_sound.true))

pub returns : goal.returns
unfolding verdict_of
returns c =
    let p = passed_all _ _ _ c.open_table.ensures _ c.in_ok-d.was in
    let tested = c.entry_sound.ensures ∙ ap (sound_entry (read_table c.args.state.now)) c.entry-e.ensures in
    says-passed _ _ (page-clear _ _ _ p c.if-d-x.false (sym tested ∙ c.if-not-entry_sound.false)) (sym p.1)
