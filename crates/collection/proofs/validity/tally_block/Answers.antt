-- Free, or used with its valid pages.
use Rattle.std.proofs.Common.{◌∙◌, arith}
use Rattle.state.proofs.Shaping.{front_in, count_is}
use Rattle.choice.proofs.Tallies.{tally-free, tally-used}
use Rattle.collection.proofs.Judging.{pages-few}
use Rattle.collection.proofs.validity.tally_block.Goals as goal

pub count-requires : goal.count-requires
count-requires c = ((front_in _ _ c.requires.0.shape).0, c.requires.1)

pub returns-then-count-eq0 : goal.returns-then-count-eq0
returns-then-count-eq0 c = tally-free _ _ _ _ _ (c.count.ensures.0 ∙ count_is _ _ c.requires.0.shape _) c.if-count-eq0.true

pub overflow_cast-result : goal.overflow_cast-result
overflow_cast-result c = omega (arith, pages-few _ _ _ c.requires.0 c.args.k)

pub returns-else-count-eq0 : goal.returns-else-count-eq0
returns-else-count-eq0 c =
    tally-used _ _ _ _ _ (c.count.ensures.0 ∙ count_is _ _ c.requires.0.shape _) c.if-count-eq0.false _ c.valid_pages.ensures
