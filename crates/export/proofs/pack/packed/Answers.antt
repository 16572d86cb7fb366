-- A refusal has a number below 16, so its field holds it.
use mathlib.Core.Path.{ap, ◌∙◌}
use Prim.Native.Nat.{ℕ, ◌*◌}
use Rattle.export.specs.Packing.{packed, bit60}
use Rattle.export.proofs.pack.packed.Goals as goal

pub returns-in-Err : goal.returns-in-Err
unfolding packed
returns-in-Err g c = rw c.in-Err.is (ap (λ (n : ℕ). n * bit60) (c.from-in-Err.ensures ∙ c.from.ensures.0))
