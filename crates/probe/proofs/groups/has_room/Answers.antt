-- By the group, then by its records.
use mathlib.Core.Path.{sym, ◌∙◌}
use Rattle.group.proofs.Soundness.{sound-encodes}
use Rattle.probe.proofs.Conditions.{size, sound, no_room, room}
use Rattle.probe.proofs.groups.has_room.Goals as goal

pub record_count-requires : goal.record_count-requires
record_count-requires c =
    let is = sym c.is_sound.ensures ∙ c.if-is_sound.true in
    (size _ is, sound-encodes 256 0 _ (sound _ is))

pub returns-then-is_sound : goal.returns-then-is_sound
returns-then-is_sound c = room _ (sym c.is_sound.ensures ∙ c.if-is_sound.true) _ c.record_count.ensures

pub returns-else-is_sound : goal.returns-else-is_sound
returns-else-is_sound c = c.if-is_sound.false ∙ no_room _ (sym c.is_sound.ensures ∙ c.if-is_sound.false)
