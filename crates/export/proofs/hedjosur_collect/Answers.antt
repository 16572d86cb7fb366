-- What was answered fits its fields; packed, it is the answer.
use borrow.Author.Rules.{rules}
use Rattle.state.proofs.Bounds.{ran_bounded}
use Rattle.export.specs.Packing.{packed}
use Rattle.export.proofs.Answered.{fitting, packs}
use Rattle.export.proofs.hedjosur_collect.Goals as goal

pub packed-requires : goal.packed-requires
packed-requires c = fitting _ _ _ (λ x b. search rules) (ran_bounded c.collect.ensures)

pub returns : goal.returns
unfolding packed
returns c = packs _ _ _ _ c.packed.ensures c.collect.ensures (λ x p. search rules)
