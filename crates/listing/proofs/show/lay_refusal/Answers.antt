-- An accepted call prints nothing, any other its refusal.
use native.Mathlib.Omega.{arith}
use mathlib.Core.Path.{refl, sym, ap, ◌∙◌}
use Rattle.lines.specs.Printed.{refused_line}
use Rattle.lines.proofs.Texts.{laid_as}
use Rattle.listing.specs.Memory.{refusal_in}
use Rattle.listing.proofs.Parts.{refusal-numbered}
use Rattle.listing.proofs.Replies.{no_refusal, a_refusal_lem, laid_nothing}
use Rattle.listing.proofs.show.lay_refusal.Goals as goal

pub returns-in-Ok : goal.returns-in-Ok
unfolding refusal_in
returns-in-Ok c = rw c.in-Ok.is (laid_as (sym (no_refusal _ refl)) (laid_nothing _ 0 (omega arith)))

pub returns-in-Err : goal.returns-in-Err
unfolding refusal_in
returns-in-Err c = rw c.in-Err.is (laid_as (ap refused_line c.from.ensures.0 ∙ sym (a_refusal_lem _ (refusal-numbered _))) c.lay_refused.ensures)
