-- The collection of the parts in use, with lists of zeros.
use native.Mathlib.Omega.{arith}
use mathlib.Core.Path.{refl}
use Rattle.calls.specs.Outcome.{number}
use Rattle.answers.specs.Answers.{answer_by}
use Rattle.listing.specs.Sizes.{block_room, plan_room}
use Rattle.std.proofs.lemmas.Result.{err_from_is_err_and}
use Rattle.listing.specs.Memory.{refusal_in}
use Rattle.listing.proofs.Parts.{front_zeros, obeyed_as, obeyed_split, err-numbered}
use Rattle.listing.proofs.lent.Memory.collect.Goals as goal

pub returns-clause-obeyed : goal.returns-clause-obeyed
unfolding refusal_in number answer_by
returns-clause-obeyed c =
    let state = c.split_at_mut-state.ensures in
    let spare = c.split_at_mut-spare.ensures in
    let held = c.args.self.now.held in
    obeyed_as (rw (front_zeros held.pages plan_room c.requires.pages_used, front_zeros held.blocks block_room c.requires.blocks_used))
    (obeyed_split c.in_ok-collect.ensures refl (omega arith) (omega arith) state.front state.back spare.front spare.back refl refl c.collect.auto.state c.collect.auto.spare)

pub returns-in_err-collect-clause-obeyed : goal.returns-in_err-collect-clause-obeyed
returns-in_err-collect-clause-obeyed c =
    let p = err_from_is_err_and c.from_residual.result c.from_residual.ensures.1 in
    let state = c.split_at_mut-state.ensures in
    let spare = c.split_at_mut-spare.ensures in
    let held = c.args.self.now.held in
    obeyed_as (rw (front_zeros held.pages plan_room c.requires.pages_used, front_zeros held.blocks block_room c.requires.blocks_used))
    (obeyed_split c.in_err-collect.ensures (err-numbered _ _ _ _ p.1 p.2) (omega arith) (omega arith) state.front state.back spare.front spare.back refl refl c.collect.auto.state c.collect.auto.spare)
