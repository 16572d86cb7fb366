-- The answer, packed.
use borrow.Author.Rules.{rules}
use Rattle.export.specs.Packing.{packed, page_alone}
use Rattle.export.proofs.Answered.{plain_packs}
use Rattle.export.proofs.hedjosur_plain_lookup.Goals as goal

pub returns : goal.returns
unfolding packed page_alone
returns c = plain_packs _ _ _ _ c.packed.ensures c.lookup.ensures (λ x p. search rules)
