-- By the conditions, one after the other, then by the group.
use mathlib.Core.Path.{◌∙◌}
use Rattle.model.specs.Device.{group_length}
use Rattle.probe.proofs.Conditions.{not_long, not_low, asked}
use Rattle.probe.proofs.Filling.{bit-from}
use Rattle.probe.proofs.groups.probe_group_sound.Goals as goal
use Rattle.probe.proofs.groups.probe_group_sound.Goals.{then-part-ne-GROUP_BYTES-via-then-part-ne-GROUP_BYTES, then-part-ne-GROUP_BYTES-via-else-part-ne-GROUP_BYTES+then-k-gt4096}

pub returns-then-part-ne-GROUP_BYTES : goal.returns-then-part-ne-GROUP_BYTES
unfolding group_length
returns-then-part-ne-GROUP_BYTES c =
    elim c.then-part-ne-GROUP_BYTES.branch [
      | then-part-ne-GROUP_BYTES-via-then-part-ne-GROUP_BYTES w ↦ not_long _ _ _ w.if-part-ne-GROUP_BYTES.true
      | then-part-ne-GROUP_BYTES-via-else-part-ne-GROUP_BYTES+then-k-gt4096 w ↦ not_low _ _ _ w.if-part-ne-GROUP_BYTES.false w.if-k-gt4096.true
    ]

pub sound-requires : goal.sound-requires
unfolding group_length
sound-requires c = (c.if-part-ne-GROUP_BYTES.false, c.if-k-gt4096.false)

pub returns : goal.returns
unfolding group_length
returns c = c.from.ensures ∙ bit-from _ ∙ asked _ _ _ c.if-part-ne-GROUP_BYTES.false c.if-k-gt4096.false _ c.sound.ensures
