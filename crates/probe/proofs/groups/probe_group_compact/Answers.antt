-- A sound group is compacted; any other stays.
use mathlib.Core.Path.{sym, ◌∙◌}
use Rattle.probe.proofs.Conditions.{size, sound, not_compacted, compacted}
use Rattle.probe.proofs.groups.probe_group_compact.Goals as goal

pub returns-then-not-is_sound : goal.returns-then-not-is_sound
returns-then-not-is_sound c = not_compacted _ (sym c.is_sound.ensures ∙ c.if-not-is_sound.true)

pub compact-requires : goal.compact-requires
compact-requires c =
    let is = sym c.is_sound.ensures ∙ c.if-not-is_sound.false in
    record { N = 256; number = 0; size = size _ is; sound = sound _ is }

pub returns : goal.returns
returns c =
    let e = c.compact.ensures in
    compacted _ (sym c.is_sound.ensures ∙ c.if-not-is_sound.false) _ _ e.1 (c.from.ensures ∙ e.2)
