-- Each arm by the number of its answer; what is answered fits its fields, so no sum passes 2^64.
use native.Mathlib.Omega.{arith}
use Rattle.calls.specs.Bounds.{Bounded}
use Rattle.answers.specs.Answers.{found_or_not}
use Rattle.export.specs.Packing.{packed}
use Rattle.export.proofs.pack.looked.Goals as goal

pub overflow_mul-result : goal.overflow_mul-result
unfolding Bounded found_or_not
overflow_mul-result c = omega (arith, rw c.in-Found.is at c.requires, c.from.ensures)

pub overflow_add-result : goal.overflow_add-result
unfolding Bounded found_or_not
overflow_add-result c = omega (arith, rw c.in-Found.is at c.requires, c.from.ensures)

pub overflow_add-result-in-Found : goal.overflow_add-result-in-Found
unfolding Bounded found_or_not
overflow_add-result-in-Found c = omega (arith, rw c.in-Found.is at c.requires, c.from.ensures, c.from-in-Found.ensures)

pub overflow_add-result-in-Found-2 : goal.overflow_add-result-in-Found-2
unfolding Bounded found_or_not
overflow_add-result-in-Found-2 c = omega (arith, rw c.in-Found.is at c.requires, c.from.ensures, c.from-in-Found.ensures, c.from-in-Found-2.ensures)

pub overflow_mul-result-in-NotWritten : goal.overflow_mul-result-in-NotWritten
unfolding Bounded found_or_not
overflow_mul-result-in-NotWritten c = omega (arith, rw c.in-NotWritten.is at c.requires, c.from-in-NotWritten.ensures)

pub returns-in-Found : goal.returns-in-Found
unfolding packed found_or_not
returns-in-Found c = rw (c.in-Found.is, c.from.ensures, c.from-in-Found.ensures, c.from-in-Found-2.ensures)

pub returns-in-NotWritten : goal.returns-in-NotWritten
unfolding packed found_or_not
returns-in-NotWritten c = rw (c.in-NotWritten.is, c.from-in-NotWritten.ensures)
