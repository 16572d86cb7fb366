-- No page, one beyond the last, or by its block's count.
use Rattle.std.proofs.Common.{◌∙◌, arith}
use Rattle.model.specs.Device.{pages}
use Rattle.plain.specs.Table.{no_page}
use Rattle.front.specs.Read.{numbers_of}
use Rattle.plainstate.proofs.Sizes.{small}
use Rattle.plainstate.proofs.Shaping.{front_in, count_is}
use Rattle.plainstate.proofs.SoundEntry.{block_inside, no_page-sound, beyond_unsound, count_decides}
use Rattle.plainstate.proofs.sound.entry_sound.Goals as goal

pub returns-then-e-eq-NO_PAGE : goal.returns-then-e-eq-NO_PAGE
unfolding no_page
returns-then-e-eq-NO_PAGE c = no_page-sound _ _ c.if-e-eq-NO_PAGE.true

pub overflow_mul-d : goal.overflow_mul-d
unfolding pages
overflow_mul-d c = omega (arith, (small _ (front_in _ _ c.requires).1).all)

pub returns-then-d-e : goal.returns-then-d-e
unfolding no_page
returns-then-d-e c = beyond_unsound _ _ _ c.requires.numbers c.if-e-eq-NO_PAGE.false c.if-d-e.true

pub count-requires : goal.count-requires
count-requires c = ((front_in _ _ c.requires).0, block_inside (numbers_of c.args.d) _ c.if-d-e.false)

pub returns : goal.returns
unfolding no_page
returns c = count_decides _ _ _ c.requires.numbers c.if-e-eq-NO_PAGE.false c.if-d-e.false _ (c.count.ensures.0 ∙ count_is _ _ c.requires _)
