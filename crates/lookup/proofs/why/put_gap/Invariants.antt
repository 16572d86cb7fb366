-- What is left of the gap makes the whole of it.
use Rattle.std.proofs.Common.{◌≡◌, ◌*◌}
use Rattle.model.specs.Lists.{store}
use Rattle.calls.specs.Why.{reasons_bytes}
use Rattle.lookup.specs.WhyEntries.{gap}
use Rattle.lookup.proofs.why.put_gap.Given as goal

abbrev pub invariant-loop-i : goal.invariant-loop-i
invariant-loop-i l = store l.initial.out (l.k * 12) (reasons_bytes (gap l.k l.v)) ≡ store l.out (l.i * 12) (reasons_bytes (gap l.i l.v))
