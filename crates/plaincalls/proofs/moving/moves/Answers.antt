-- The blocks are given up, and the entries in them gathered: they are the moves.
use Rattle.std.proofs.Common.{ap, ◌∙◌, List, length, ltb, arith}
use Rattle.model.specs.Lists.{all}
use Rattle.model.specs.Learning.{Write}
use Rattle.model.proofs.Limits.{limits}
use Rattle.plaincalls.proofs.Kept.{one_behind}
use Rattle.plaincalls.proofs.Gathering.{listed_as}
use Rattle.plaincalls.proofs.Taking.{taken_in, moves-few, moves-gathered}
use Rattle.plaincalls.proofs.moving.moves.Goals as goal

pub give_up-requires : goal.give_up-requires
give_up-requires c =
    let pre = c.requires in
    (omega arith, ap (all (λ k. ltb k 4097)) pre.1 ∙ taken_in _ _ pre.0 4097 (omega (arith, (limits _ pre.0.shape.limits).most_M)))

-- the block behind the last is kept, and the entries in the blocks given up are the moves
pub gather-requires : goal.gather-requires
gather-requires c =
    let pre = c.requires in
    let most = (limits _ pre.0.shape.limits).most_M in
    let few = ap (λ (ws : List Write). length ws) (moves-gathered _ _ pre.0 4097 (omega arith) _ _ pre.1 c.give_up.ensures) in (
      pre.0,
      one_behind 4097 _ _ _ (omega arith) (ap (all (λ k. ltb k c.args.d.m)) pre.1 ∙ taken_in _ _ pre.0 _ (omega arith)) c.give_up.ensures,
      omega (arith, moves-few _ _ pre.0, pre.2),
      omega (arith, moves-few _ _ pre.0, pre.3),
    )

pub returns-clause-count : goal.returns-clause-count
returns-clause-count c =
    let most = (limits _ c.requires.0.shape.limits).most_M in
    (listed_as _ _ (moves-gathered _ _ c.requires.0 4097 (omega arith) _ _ c.requires.1 c.give_up.ensures) _ _ _ _ _
    c.gather.ensures.count c.gather.ensures.logical c.gather.ensures.source).0

pub returns-clause-logical : goal.returns-clause-logical
returns-clause-logical c =
    let most = (limits _ c.requires.0.shape.limits).most_M in
    (listed_as _ _ (moves-gathered _ _ c.requires.0 4097 (omega arith) _ _ c.requires.1 c.give_up.ensures) _ _ _ _ _
    c.gather.ensures.count c.gather.ensures.logical c.gather.ensures.source).1.0

pub returns-clause-source : goal.returns-clause-source
returns-clause-source c =
    let most = (limits _ c.requires.0.shape.limits).most_M in
    (listed_as _ _ (moves-gathered _ _ c.requires.0 4097 (omega arith) _ _ c.requires.1 c.give_up.ensures) _ _ _ _ _
    c.gather.ensures.count c.gather.ensures.logical c.gather.ensures.source).1.1
