-- Each refusal, in order, by the law of its return; then the records are listed.
use Rattle.std.proofs.Common.{sym, ◌∙◌, arith}
use Rattle.std.proofs.lemmas.Result.{err_from_is_err_and}
use Rattle.answers.specs.Answers.{answer_by, refusal_of}
use Rattle.answers.proofs.Verdicts.{refused_first, passed_all}
use Rattle.state.specs.Reading.{read_state}
use Rattle.state.proofs.Refusing.{opened-shape}
use Rattle.lookup.proofs.Listing.{list-closed, list_length, list_range, list_unsound, list_done_lem}
use Rattle.lookup.proofs.list.list.Goals as goal

pub returns-in_err-d : goal.returns-in_err-d
unfolding answer_by
returns-in_err-d c spare =
    let p = err_from_is_err_and c.from_residual.result c.from_residual.ensures.1 in
    rw (p.1, p.2) (list-closed _ spare _ _ _ (refused_first _ _ _ c.open_state.ensures _ c.in_err-d.was))

pub returns-then-out-ne-LISTING : goal.returns-then-out-ne-LISTING
unfolding answer_by refusal_of
returns-then-out-ne-LISTING c spare =
    list_length _ spare _ _ _ (passed_all _ (read_state c.args.state.now).device _ c.open_state.ensures _ c.in_ok-d.was) c.if-out-ne-LISTING.true

pub returns-then-group_count-group : goal.returns-then-group_count-group
unfolding answer_by refusal_of
returns-then-group_count-group c spare =
    let p = passed_all _ (read_state c.args.state.now).device _ c.open_state.ensures _ c.in_ok-d.was in
    list_range _ spare _ _ _ p c.if-out-ne-LISTING.false (omega (arith, c.if-group_count-group.true, c.group_count.ensures))

pub group_sound-requires : goal.group_sound-requires
group_sound-requires c =
    let p = passed_all _ (read_state c.args.state.now).device _ c.open_state.ensures _ c.in_ok-d.was in
    (opened-shape _ _ p.0 p.1, omega (arith, c.if-group_count-group.false, c.group_count.ensures))

pub returns-then-not-group_sound : goal.returns-then-not-group_sound
unfolding answer_by refusal_of
returns-then-not-group_sound c spare =
    let p = passed_all _ (read_state c.args.state.now).device _ c.open_state.ensures _ c.in_ok-d.was in
    list_unsound _ spare _ _ _ p c.if-out-ne-LISTING.false (omega (arith, c.if-group_count-group.false, c.group_count.ensures))
    (sym c.group_sound.ensures ∙ c.if-not-group_sound.true)

pub list_group-n-requires : goal.list_group-n-requires
list_group-n-requires c =
    let p = passed_all _ (read_state c.args.state.now).device _ c.open_state.ensures _ c.in_ok-d.was in (
      opened-shape _ _ p.0 p.1,
      omega (arith, c.if-group_count-group.false, c.group_count.ensures),
      sym c.group_sound.ensures ∙ c.if-not-group_sound.false,
      c.if-out-ne-LISTING.false,
    )

pub returns : goal.returns
unfolding answer_by
returns c spare =
    let p = passed_all _ (read_state c.args.state.now).device _ c.open_state.ensures _ c.in_ok-d.was in
    let done = c.list_group-n.ensures in
    list_done_lem _ spare _ _ _ p c.if-out-ne-LISTING.false (omega (arith, c.if-group_count-group.false, c.group_count.ensures))
    (sym c.group_sound.ensures ∙ c.if-not-group_sound.false) _ _ done.0 done.1
