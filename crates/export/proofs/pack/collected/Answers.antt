-- What is answered fits its fields, so no sum passes 2^64.
use native.Mathlib.Omega.{arith}
use Rattle.calls.specs.Bounds.{Bounded}
use Rattle.export.specs.Packing.{packed}
use Rattle.export.proofs.pack.collected.Goals as goal

pub overflow_mul-result : goal.overflow_mul-result
unfolding Bounded
overflow_mul-result c = omega (arith, c.requires, c.from.ensures)

pub overflow_add-result : goal.overflow_add-result
unfolding Bounded
overflow_add-result c = omega (arith, c.requires, c.from.ensures, c.from-2.ensures)

pub overflow_add-result-2 : goal.overflow_add-result-2
unfolding Bounded
overflow_add-result-2 c = omega (arith, c.requires, c.from.ensures, c.from-2.ensures, c.from-3.ensures)

pub returns : goal.returns
unfolding packed
returns c = rw (c.from.ensures, c.from-2.ensures, c.from-3.ensures)
