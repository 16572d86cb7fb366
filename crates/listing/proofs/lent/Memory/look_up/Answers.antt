-- The lookup of the parts in use.
use mathlib.Core.Path.{refl, sym}
use Rattle.answers.specs.Answers.{answer_by}
use Rattle.std.proofs.lemmas.Result.{err_from_is_err_and}
use Rattle.listing.specs.Memory.{refusal_in}
use Rattle.listing.proofs.Parts.{obeyed, found-numbered, err-numbered}
use Rattle.listing.proofs.lent.Memory.look_up.Goals as goal

pub returns : goal.returns
unfolding refusal_in answer_by
returns c = obeyed c.in_ok-lookup.ensures (sym (found-numbered c.in_ok-lookup.field-0)) refl refl refl refl

pub returns-in_err-lookup : goal.returns-in_err-lookup
returns-in_err-lookup c =
    let p = err_from_is_err_and c.from_residual.result c.from_residual.ensures.1 in
    obeyed c.in_err-lookup.ensures (err-numbered _ _ _ _ p.1 p.2) refl refl refl refl
