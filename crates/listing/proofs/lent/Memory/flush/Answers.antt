-- The flush of the parts in use, with a plan of zeros.
use native.Mathlib.Omega.{arith}
use mathlib.Core.Path.{refl, ap}
use Rattle.calls.specs.Outcome.{number}
use Rattle.calls.specs.History.{flush_call}
use Rattle.answers.specs.Answers.{answer_by}
use Rattle.std.proofs.lemmas.Result.{err_from_is_err_and}
use Rattle.listing.specs.Memory.{refusal_in}
use Rattle.listing.proofs.Parts.{front_zeros, obeyed_as, obeyed_split, err-numbered}
use Rattle.listing.proofs.lent.Memory.flush.Goals as goal

pub returns-clause-obeyed : goal.returns-clause-obeyed
unfolding refusal_in number answer_by
returns-clause-obeyed c =
    let state = c.split_at_mut-state.ensures in
    let spare = c.split_at_mut-spare.ensures in
    let held = c.args.self.now.held in
    obeyed_as (ap (flush_call c.args.batch.now) (front_zeros _ _ c.requires.pages_used))
    (obeyed_split c.in_ok-flush.ensures refl (omega arith) (omega arith) state.front state.back spare.front spare.back refl refl c.flush.auto.state c.flush.auto.spare)

pub returns-in_err-flush-clause-obeyed : goal.returns-in_err-flush-clause-obeyed
returns-in_err-flush-clause-obeyed c =
    let p = err_from_is_err_and c.from_residual.result c.from_residual.ensures.1 in
    let state = c.split_at_mut-state.ensures in
    let spare = c.split_at_mut-spare.ensures in
    let held = c.args.self.now.held in
    obeyed_as (ap (flush_call c.args.batch.now) (front_zeros _ _ c.requires.pages_used))
    (obeyed_split c.in_err-flush.ensures (err-numbered _ _ _ _ p.1 p.2) (omega arith) (omega arith) state.front state.back spare.front spare.back refl refl c.flush.auto.state c.flush.auto.spare)
