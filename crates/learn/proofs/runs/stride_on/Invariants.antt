-- At each turn the pages go on at stride d up to place j.
use Rattle.std.proofs.Common.{◌≡◌, ◌/◌, ◌-◌, ◌≤◌, ◌<◌, length, get_or}
use Rattle.learn.specs.Runs.{Strides}
use Rattle.learn.proofs.runs.stride_on.Given as goal

abbrev pub invariant-loop-j : goal.invariant-loop-j
invariant-loop-j l = record {
  on : l.from ≤ l.j;
  inside : l.j < length l.written;
  group : get_or l.written l.j 0 / 256 ≡ l.k;
  strides : Strides l.written l.d l.from l.j;
}

abbrev pub decreases-loop-j : goal.decreases-loop-j
decreases-loop-j l = length l.written - l.j
