-- The groups first, then the counts decide.
use Rattle.std.proofs.Common.{ℕ, leb, sym, ap, ◌∙◌}
use Rattle.model.specs.Lists.{all}
use Rattle.state.proofs.Shaping.{front_in, counts_are}
use Rattle.state.proofs.Handing.{groups_fail, counts_decide}
use Rattle.state.proofs.groups.sound.Goals as goal

pub counts_sound-requires : goal.counts_sound-requires
counts_sound-requires c = (front_in _ _ c.requires).0

pub returns-then-groups_sound : goal.returns-then-groups_sound
returns-then-groups_sound c =
    counts_decide _ _ c.requires _ c.groups_sound.ensures c.if-groups_sound.true _
    (c.counts_sound.ensures ∙ ap (all (λ (n : ℕ). leb n c.args.d.b)) (sym (counts_are _ _ c.requires)))

pub returns-else-groups_sound : goal.returns-else-groups_sound
returns-else-groups_sound c = c.if-groups_sound.false ∙ groups_fail _ _ c.requires _ c.groups_sound.ensures c.if-groups_sound.false
