-- The compaction of the part in use.
use mathlib.Core.Path.{refl}
use native.Mathlib.Omega.{arith}
use lib.ListN.{take}
use Rattle.calls.specs.Outcome.{number}
use Rattle.answers.specs.Answers.{answer_by}
use Rattle.std.proofs.lemmas.Result.{err_from_is_err_and}
use Rattle.listing.specs.Memory.{refusal_in}
use Rattle.listing.proofs.Parts.{front-back, rest_back, obeyed, err-numbered}
use Rattle.listing.proofs.lent.Memory.compact.Goals as goal

pub returns-clause-obeyed : goal.returns-clause-obeyed
unfolding refusal_in number answer_by
returns-clause-obeyed c =
    let m = c.args.self.now in
    let compact = c.compact in
    obeyed (c.in_ok-compact.ensures.ran (take m.held.spare m.spare)) refl
    (front-back m.held.state m.state _ (omega arith) compact.auto.state) refl
    (rest_back m.held.state m.state compact.new.state (omega arith) compact.auto.state) refl

pub returns-in_err-compact-clause-obeyed : goal.returns-in_err-compact-clause-obeyed
returns-in_err-compact-clause-obeyed c =
    let p = err_from_is_err_and c.from_residual.result c.from_residual.ensures.1 in
    let m = c.args.self.now in
    let compact = c.compact in
    obeyed (c.in_err-compact.ensures.ran (take m.held.spare m.spare)) (err-numbered _ _ _ _ p.1 p.2)
    (front-back m.held.state m.state _ (omega arith) compact.auto.state) refl
    (rest_back m.held.state m.state compact.new.state (omega arith) compact.auto.state) refl
