-- The middle entry is too high, or lookup of it gives no page, or one that is p or not.
use Rattle.std.proofs.Common.{Ok, refl, sym, ap, ◌∙◌, arith}
use Rattle.calls.specs.Collection.{gives}
use Rattle.answers.specs.Answers.{as_looked}
use Rattle.state.proofs.Seeking.{looked_is}
use Rattle.collection.proofs.Judging.{group_fine, too_high, not_given, given_is}
use Rattle.collection.proofs.validity.valid.Goals as goal

pub returns-then-d-x : goal.returns-then-d-x
returns-then-d-x c = too_high _ _ _ c.requires.0 _ _ c.middle-x.ensures (omega arith)

pub seek-requires : goal.seek-requires
seek-requires c =
    let passed = c.requires.0 in
    (passed.shape, passed.fits, omega arith, group_fine _ _ _ passed _)

pub returns-in_default : goal.returns-in_default
unfolding gives as_looked
returns-in_default c =
    not_given _ _ _ c.requires.0 _ _ c.middle-x.ensures (omega arith) _ (sym (ap as_looked c.in_default.is) ∙ looked_is _ _ c.seek.ensures) refl

pub returns-in_default-looked : goal.returns-in_default-looked
unfolding gives as_looked
returns-in_default-looked c =
    let missed = c.in-Ok.is ∙ ap Ok c.in_default-looked.is in
    not_given _ _ _ c.requires.0 _ _ c.middle-x.ensures (omega arith) _ (sym (ap as_looked missed) ∙ looked_is _ _ c.seek.ensures) refl

pub returns : goal.returns
unfolding as_looked
returns c =
    let found = c.in-Ok.is ∙ ap Ok c.in-Found.is in
    given_is _ _ _ c.requires.0 _ _ c.middle-x.ensures (omega arith) _ _ _ (sym (ap as_looked found) ∙ looked_is _ _ c.seek.ensures)
