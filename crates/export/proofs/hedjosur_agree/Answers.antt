-- The answer, packed, whatever state and spare area are.
use borrow.Author.Rules.{rules}
use Rattle.export.specs.Packing.{packed}
use Rattle.export.proofs.Answered.{packs}
use Rattle.export.proofs.hedjosur_agree.Goals as goal

pub returns : goal.returns
unfolding packed
returns c = λ state spare. packs _ _ _ _ c.packed.ensures (c.agree.ensures state spare) (λ x p. search rules)
