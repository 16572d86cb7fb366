-- Each refusal, in order, by the law of its return; a discarded page has no entry; then the entries are told.
use Rattle.std.proofs.Common.{sym, ◌∙◌}
use Rattle.std.proofs.lemmas.Result.{err_from_is_err_and}
use Rattle.model.proofs.Limits.{group-inside}
use Rattle.answers.specs.Answers.{answer_by, refusal_of}
use Rattle.answers.proofs.Verdicts.{refused_first, passed_all}
use Rattle.state.specs.Reading.{read_state}
use Rattle.state.proofs.Refusing.{opened-shape}
use Rattle.lookup.proofs.WhyEnds.{why-closed, why_length_lem, why_range, why_unsound, why-marked, why_done_lem}
use Rattle.lookup.proofs.why.why.Goals as goal

pub returns-in_err-d : goal.returns-in_err-d
unfolding answer_by
returns-in_err-d c spare =
    let e = err_from_is_err_and c.from_residual.result c.from_residual.ensures.1 in
    rw (e.1, e.2) (why-closed _ spare _ _ _ (refused_first _ _ _ c.open_state.ensures _ c.in_err-d.was))

pub returns-then-out-ne-WHY : goal.returns-then-out-ne-WHY
unfolding answer_by refusal_of
returns-then-out-ne-WHY c spare = why_length_lem _ spare _ _ _ (passed_all _ (read_state c.args.state.now).device _ c.open_state.ensures _ c.in_ok-d.was) c.if-out-ne-WHY.true

pub returns-then-d-page : goal.returns-then-d-page
unfolding answer_by refusal_of
returns-then-d-page c spare = why_range _ spare _ _ _ (passed_all _ (read_state c.args.state.now).device _ c.open_state.ensures _ c.in_ok-d.was) c.if-out-ne-WHY.false c.if-d-page.true

pub group_sound-requires : goal.group_sound-requires
group_sound-requires c =
    let p = passed_all _ (read_state c.args.state.now).device _ c.open_state.ensures _ c.in_ok-d.was in
    (opened-shape (read_state c.args.state.now) _ p.0 p.1, group-inside _ _ c.if-d-page.false)

pub returns-then-not-group_sound : goal.returns-then-not-group_sound
unfolding answer_by refusal_of
returns-then-not-group_sound c spare =
    why_unsound _ spare _ _ _ (passed_all _ (read_state c.args.state.now).device _ c.open_state.ensures _ c.in_ok-d.was) c.if-out-ne-WHY.false c.if-d-page.false (sym c.group_sound.ensures ∙ c.if-not-group_sound.true)

pub is_marked-requires : goal.is_marked-requires
is_marked-requires c =
    let p = passed_all _ (read_state c.args.state.now).device _ c.open_state.ensures _ c.in_ok-d.was in
    (opened-shape (read_state c.args.state.now) _ p.0 p.1, c.if-d-page.false)

pub returns-then-is_marked : goal.returns-then-is_marked
unfolding answer_by
returns-then-is_marked c spare =
    why-marked _ spare _ _ _ (passed_all _ (read_state c.args.state.now).device _ c.open_state.ensures _ c.in_ok-d.was) c.if-out-ne-WHY.false c.if-d-page.false (sym c.group_sound.ensures ∙ c.if-not-group_sound.false) (sym c.is_marked.ensures ∙ c.if-is_marked.true)

pub tell_group-requires : goal.tell_group-requires
tell_group-requires c =
    let p = passed_all _ (read_state c.args.state.now).device _ c.open_state.ensures _ c.in_ok-d.was in
    (opened-shape (read_state c.args.state.now) _ p.0 p.1, c.if-d-page.false, sym c.group_sound.ensures ∙ c.if-not-group_sound.false, c.if-out-ne-WHY.false)

pub returns : goal.returns
unfolding answer_by
returns c spare =
    why_done_lem _ spare _ _ _ (passed_all _ (read_state c.args.state.now).device _ c.open_state.ensures _ c.in_ok-d.was) c.if-out-ne-WHY.false c.if-d-page.false (sym c.group_sound.ensures ∙ c.if-not-group_sound.false) (sym c.is_marked.ensures ∙ c.if-is_marked.false)
    _ _ c.tell_group.ensures.0 c.tell_group.ensures.1
