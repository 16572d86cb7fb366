-- The blocks are counted by the tally; where neither refusal applies they are listed. Assumes nothing.
use Rattle.std.proofs.Common.{◌≡◌, List, ℕ, length, sym, ap, ◌∙◌}
use Rattle.model.specs.Lists.{store}
use Rattle.calls.specs.Choice.{Used, pages_of}
use Rattle.answers.specs.Answers.{refusal_of}
use Rattle.choice.specs.Tally.{chosen, total}
use Rattle.choice.specs.Taking.{Chooses, choice_of}
use Rattle.choice.proofs.Taken.{blocks-length}
use Rattle.choice.proofs.Deciding.{gains_nothing, lacks_block, gains, says-refused, says-taken}
use Rattle.choice.proofs.taking.take_blocks.Goals as goal

-- where the tally chooses these blocks
blocks : {tally : List ℕ} {b n : ℕ} {us : List Used} → Chooses tally b us → n ≡ length (chosen tally b) → n ≡ length us
blocks {us = us} h e = e ∙ ap length h.blocks ∙ blocks-length us

pages : {tally : List ℕ} {b n : ℕ} {us : List Used} → Chooses tally b us → n ≡ total tally (chosen tally b) → n ≡ length (pages_of us)
pages {tally = tally} h e = e ∙ ap (total tally) h.blocks ∙ h.pages

pub returns-then-no_gain : goal.returns-then-no_gain
unfolding choice_of refusal_of
returns-then-no_gain c = λ us counts h f.
    let t = c.count_chosen-t.ensures in
    let gain = c.no_gain.ensures us (blocks h t.blocks) (pages h t.pages) in
    says-refused us counts (gains_nothing us counts (sym gain ∙ c.if-no_gain.true)) _

pub returns-then-no_block : goal.returns-then-no_block
unfolding choice_of refusal_of
returns-then-no_block c = λ us counts h f.
    let t = c.count_chosen-t.ensures in
    let gain = c.no_gain.ensures us (blocks h t.blocks) (pages h t.pages) in
    says-refused us counts (lacks_block us counts (sym gain ∙ c.if-no_gain.false) _ _ (pages h t.pages) f (sym c.no_block.ensures ∙ c.if-no_block.true)) _

pub returns : goal.returns
unfolding choice_of
returns c = λ us counts h f.
    let t = c.count_chosen-t.ensures in
    let gain = c.no_gain.ensures us (blocks h t.blocks) (pages h t.pages) in
    let none = gains us counts (sym gain ∙ c.if-no_gain.false) _ _ (pages h t.pages) f (sym c.no_block.ensures ∙ c.if-no_block.false) in
    says-taken us counts none _ (blocks h t.blocks) _ _ (c.choose.ensures ∙ ap (store c.args.order.now 0) h.blocks)
