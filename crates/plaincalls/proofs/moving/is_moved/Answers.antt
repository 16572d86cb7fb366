-- The entry, or the page behind the last, is looked up.
use Rattle.std.proofs.Common.{ap, ◌∙◌, ℕ, get_or, nat_eq, min, arith}
use Rattle.model.proofs.Limits.{limits}
use Rattle.front.specs.Read.{numbers_of}
use Rattle.plaincalls.proofs.Reciprocal.{reciprocal-small}
use Rattle.plaincalls.proofs.Kept.{looked-lower}
use Rattle.plaincalls.proofs.moving.is_moved.Goals as goal

pub block_of-k-requires : goal.block_of-k-requires
block_of-k-requires c =
    let pre = c.requires in
    let looked = looked-lower (numbers_of c.args.d) c.args.d.limits _ pre.2 _ _ pre.3 (c.min.ensures ∙ ap (min c.args.e) pre.1) in
    (omega (arith, pre.0, reciprocal-small _ (limits _ c.args.d.limits).least_B), looked.small)

pub bounds-kept-k : goal.bounds-kept-k
bounds-kept-k c =
    let pre = c.requires in
    let l = limits _ c.args.d.limits in
    let looked = looked-lower (numbers_of c.args.d) c.args.d.limits _ pre.2 _ _ pre.3 (c.min.ensures ∙ ap (min c.args.e) pre.1) in
    omega (arith, c.block_of-k.ensures _ l.least_B l.most_B pre.0, looked.inside)

pub returns : goal.returns
returns c =
    let pre = c.requires in
    let l = limits _ c.args.d.limits in
    let looked = looked-lower (numbers_of c.args.d) c.args.d.limits _ pre.2 _ _ pre.3 (c.min.ensures ∙ ap (min c.args.e) pre.1) in
    ap (λ (k : ℕ). nat_eq (get_or c.args.kept.now k 0) 0) (c.block_of-k.ensures _ l.least_B l.most_B pre.0) ∙ looked.answers
