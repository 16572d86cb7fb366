-- The answer, packed, whatever the spare area is.
use borrow.Author.Rules.{rules}
use Rattle.export.specs.Packing.{packed}
use Rattle.export.proofs.Answered.{packs}
use Rattle.export.proofs.hedjosur_compact.Goals as goal

pub returns-clause-packs : goal.returns-clause-packs
unfolding packed
returns-clause-packs c = λ spare. packs _ _ _ _ c.packed.ensures (c.compact.ensures.ran spare) (λ x p. search rules)
