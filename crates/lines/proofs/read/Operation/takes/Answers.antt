-- One count of numbers for each operation.
use mathlib.Core.Logic.{inl, inr}
use Rattle.lines.specs.Script.{takes}
use Rattle.lines.specs.Reading.{number_of_operation}
use Rattle.lines.proofs.read.Operation.takes.Goals as goal

pub returns-in-Format : goal.returns-in-Format
unfolding takes number_of_operation
returns-in-Format c = rw c.in-Format.is

pub returns-in-Flush : goal.returns-in-Flush
unfolding takes number_of_operation
returns-in-Flush c = rw c.in-Flush.is

pub returns-in-Collect : goal.returns-in-Collect
unfolding takes number_of_operation
returns-in-Collect c = rw c.in-Collect.is

pub returns-in-LookUp : goal.returns-in-LookUp
unfolding takes number_of_operation
returns-in-LookUp c = elim c.in-LookUp.is [ inl e ↦ rw e | inr o ↦ elim o [ inl e ↦ rw e | inr e ↦ rw e ] ]
