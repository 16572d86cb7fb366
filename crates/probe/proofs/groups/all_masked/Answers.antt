-- The mask is compared with the one expected.
use mathlib.Core.Path.{◌∙◌}
use Rattle.probe.proofs.Filling.{blank}
use Rattle.probe.proofs.Masks.{every-alike}
use Rattle.probe.proofs.groups.all_masked.Goals as goal

pub expect-requires : goal.expect-requires
expect-requires c = let pre = c.requires in
    (pre.0, pre.1, pre.2, blank)

pub returns : goal.returns
returns c = c.same.ensures ∙ every-alike _ _ c.expect.ensures.1
