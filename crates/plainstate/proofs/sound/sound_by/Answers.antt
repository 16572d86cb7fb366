-- A count that exceeds B, or what is counted, decides.
use Rattle.std.proofs.Common.{◌≤◌, sym, ap, ◌∙◌, leb, arith}
use Rattle.model.specs.Lists.{all, store}
use Rattle.model.specs.Device.{pages}
use Rattle.front.specs.Read.{numbers_of}
use Rattle.plain.specs.Table.{no_page}
use Rattle.plainstate.specs.Reading.{read_table}
use Rattle.plainstate.proofs.Sizes.{small}
use Rattle.plainstate.proofs.Shaping.{front_in, counts_are, length-counts}
use Rattle.plainstate.proofs.SoundTable.{count_unsound, counting-sound, counting-tally}
use Rattle.plainstate.proofs.sound.sound_by.Goals as goal

pub counts_sound-requires : goal.counts_sound-requires
counts_sound-requires c = (front_in _ _ c.requires.0).0

pub returns-then-not-counts_sound-clause-sound : goal.returns-then-not-counts_sound-clause-sound
returns-then-not-counts_sound-clause-sound c =
    let told = c.counts_sound.ensures ∙ ap (all (λ x. leb x c.args.d.b)) (sym (counts_are _ _ c.requires.0)) in
    count_unsound _ _ c.requires.0.numbers (sym c.if-not-counts_sound.true ∙ told)

pub tally_marked-requires : goal.tally_marked-requires
tally_marked-requires c =
    let told = c.counts_sound.ensures ∙ ap (all (λ x. leb x c.args.d.b)) (sym (counts_are _ _ c.requires.0)) in
    (c.requires.0, omega (arith, c.requires.1), sym told ∙ c.if-not-counts_sound.false)

pub returns-clause-sound : goal.returns-clause-sound
unfolding no_page
returns-clause-sound c =
    let told = c.counts_sound.ensures ∙ ap (all (λ x. leb x c.args.d.b)) (sym (counts_are _ _ c.requires.0)) in
    let few : pages (numbers_of c.args.d) ≤ no_page = omega (arith, (small _ c.requires.0.limits).all) in
    counting-sound _ _ c.requires.0.numbers few (length-counts _ _ c.requires.0) (sym c.if-not-counts_sound.false ∙ told)
    _ c.name_all-named.ensures.bits _ _ c.tally_marked.ensures.count c.name_all-named.ensures.count

pub returns-clause-tally : goal.returns-clause-tally
unfolding no_page
returns-clause-tally c =
    let told = c.counts_sound.ensures ∙ ap (all (λ x. leb x c.args.d.b)) (sym (counts_are _ _ c.requires.0)) in
    let few : pages (numbers_of c.args.d) ≤ no_page = omega (arith, (small _ c.requires.0.limits).all) in
    let so = sym c.if-not-counts_sound.false ∙ told in
    let sized = length-counts _ _ c.requires.0 in
    let sound = counting-sound _ (read_table c.args.state.now) c.requires.0.numbers few sized so _ c.name_all-named.ensures.bits _ _ c.tally_marked.ensures.count c.name_all-named.ensures.count in
    λ e. c.tally_marked.ensures.tally
    ∙ ap (store c.args.tally.now 0) (counting-tally _ (read_table c.args.state.now) c.requires.0.numbers few sized so _ c.name_all-named.ensures.bits (sym sound ∙ e))
