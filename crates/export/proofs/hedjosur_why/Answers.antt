-- The answer, packed, whatever the spare area is.
use borrow.Author.Rules.{rules}
use Rattle.export.specs.Packing.{packed}
use Rattle.export.proofs.Answered.{packs}
use Rattle.export.proofs.hedjosur_why.Goals as goal

pub returns : goal.returns
unfolding packed
returns c = λ spare. packs _ _ _ _ c.packed.ensures (c.why.ensures spare) (λ x p. search rules)
