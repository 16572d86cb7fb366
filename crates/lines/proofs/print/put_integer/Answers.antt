-- The digits are those of the distance from 0.
use mathlib.Core.Path.{ap, ◌∙◌}
use lib.IntN.{ℤ, pos, nat_abs}
use lib.Signed.{lt_z}
use mir.Facts.{to_z-of_z}
use Rattle.lines.specs.Printed.{decimal, signed, right}
use Rattle.lines.proofs.Texts.{laid_as}
use Rattle.lines.proofs.Integers.{integer_abs}
use Rattle.lines.proofs.print.put_integer.Goals as goal

pub returns : goal.returns
returns c =
    let laid = c.put_number.ensures in
    let same = ap (λ (z : ℤ). signed (lt_z z (pos 0)) (decimal (nat_abs z))) (to_z-of_z c.ranges.z) ∙ integer_abs c.args.z in
    (laid_as (ap (right c.args.width) (rw c.unsigned_abs.ensures.value same)) laid.0, laid.1)
