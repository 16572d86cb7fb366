-- At each turn the mask has the record's own offsets before o.
use native.Mathlib.Omega.{arith}
use mathlib.Core.Path.{◌∙◌}
use Rattle.probe.proofs.Filling.{bit-from, owning-start, owning-turn, owning-end}
use Rattle.probe.proofs.groups.expect_owned.Goals as goal

pub loop-o-init : goal.loop-o-init
loop-o-init c = owning-start c.args.mask.now _ _ _ c.requires.2

pub loop-o-preserved : goal.loop-o-preserved
loop-o-preserved c =
    owning-turn c.args.mask.now _ _ _ _ c.loop-o.invariant (omega arith) (omega arith) c.requires.1 _ (c.from.ensures ∙ bit-from _)

pub returns : goal.returns
returns c = owning-end c.args.mask.now _ _ _ _ c.loop-o.invariant (omega arith)
