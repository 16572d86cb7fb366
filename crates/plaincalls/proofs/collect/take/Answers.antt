-- The blocks are taken by the tally of this table.
use Rattle.std.proofs.Common.{sym, ap, ◌∙◌, subst, ℕ, List, length, arith}
use Rattle.model.specs.State.{free_blocks}
use Rattle.model.proofs.Limits.{limits}
use Rattle.choice.specs.Taking.{Chooses}
use Rattle.choice.proofs.Tallies.{length-tally}
use Rattle.plain.specs.Calls.{victims}
use Rattle.plainstate.specs.Reading.{read_table}
use Rattle.plainstate.proofs.Shaping.{front_in, counts_are, length-counts}
use Rattle.plaincalls.proofs.Taking.{chooses}
use Rattle.plaincalls.proofs.collect.take.Goals as goal

pub free_count-free-requires : goal.free_count-free-requires
free_count-free-requires c = (front_in _ _ c.requires.0.shape).0

-- it has an entry for each block
pub take_blocks-requires : goal.take_blocks-requires
take_blocks-requires c =
    let most = limits _ c.requires.0.shape.limits in
    let t = read_table c.args.state.now in
    let long = ap length c.requires.2 ∙ length-tally _ t.device t.counts ∙ length-counts _ _ c.requires.0.shape in
    (omega arith, omega arith, most.most_B)

pub returns : goal.returns
returns c =
    c.take_blocks.ensures _ _
    (subst (λ (l : List ℕ). Chooses l c.args.d.b (victims (read_table c.args.state.now))) (sym c.requires.2) (chooses _ _ c.requires.0))
    (c.free_count-free.ensures ∙ ap (λ (cs : List ℕ). length (free_blocks 0 cs)) (sym (counts_are _ _ c.requires.0.shape)))
