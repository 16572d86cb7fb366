-- What was answered fits its fields; packed, it is the answer.
use borrow.Author.Rules.{rules}
use Rattle.plainstate.proofs.Bounds.{ran_bounded}
use Rattle.export.specs.Packing.{packed, page_alone}
use Rattle.export.proofs.Answered.{fitting, plain_packs}
use Rattle.export.proofs.hedjosur_plain_collect.Goals as goal

pub packed-requires : goal.packed-requires
packed-requires c = fitting _ _ _ (λ x b. search rules) (ran_bounded c.collect.ensures)

pub returns : goal.returns
unfolding packed page_alone
returns c = plain_packs _ _ _ _ c.packed.ensures c.collect.ensures (λ x p. search rules)
