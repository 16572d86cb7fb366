-- The answer, packed.
use borrow.Author.Rules.{rules}
use Rattle.export.specs.Packing.{packed}
use Rattle.export.proofs.Answered.{packs}
use Rattle.export.proofs.hedjosur_flush.Goals as goal

pub returns : goal.returns
unfolding packed
returns c = packs _ _ _ _ c.packed.ensures c.flush.ensures (λ x p. search rules)
