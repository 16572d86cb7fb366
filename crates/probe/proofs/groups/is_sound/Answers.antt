-- By the length, then by the group.
use native.Mathlib.Omega.{arith}
use mathlib.Core.Path.{◌∙◌}
use borrow.Author.Tests.{ne_eqb}
use Rattle.model.specs.Device.{group_length}
use Rattle.probe.proofs.Conditions.{other_length, right-size}
use Rattle.probe.proofs.groups.is_sound.Goals as goal

pub sound-requires : goal.sound-requires
unfolding group_length
sound-requires c = (c.if-part-eq-GROUP_BYTES.true, omega arith)

pub returns-then-part-eq-GROUP_BYTES : goal.returns-then-part-eq-GROUP_BYTES
unfolding group_length
returns-then-part-eq-GROUP_BYTES c = right-size _ c.if-part-eq-GROUP_BYTES.true _ c.sound.ensures

pub returns-else-part-eq-GROUP_BYTES : goal.returns-else-part-eq-GROUP_BYTES
unfolding group_length
returns-else-part-eq-GROUP_BYTES c = ne_eqb _ 5636 c.if-part-eq-GROUP_BYTES.false ∙ other_length _ c.if-part-eq-GROUP_BYTES.false
