-- `put_i32` meets its contract: the bits of z are stored.
use Rattle.std.proofs.Common.{◌∙◌, ap, ℕ}
use mir.Facts.{to_z-of_z}
use Rattle.model.specs.Lists.{store}
use Rattle.octets.specs.Little.{bits32, bytes4}
use Rattle.octets.proofs.put_i32.Goals as goal

pub returns : goal.returns
unfolding bits32
returns c = c.put_u32.ensures ∙ ap (λ (v : ℕ). store c.args.s.now c.args.p (bytes4 v)) (c.cast_unsigned.ensures ∙ ap bits32 (to_z-of_z c.ranges.z))
