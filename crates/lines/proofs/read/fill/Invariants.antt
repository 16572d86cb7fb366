-- The values that are left make the whole store.
use Rattle.std.proofs.Common.{◌≡◌, ◌-◌}
use Rattle.model.specs.Lists.{store}
use Rattle.lines.specs.Reading.{values_from}
use Rattle.lines.proofs.read.fill.Given as goal

abbrev pub invariant-loop-i : goal.invariant-loop-i
invariant-loop-i l = store l.numbers l.i (values_from l.line l.i (l.count - l.i)) ≡ store l.fn.numbers 0 (values_from l.line 0 l.count)
