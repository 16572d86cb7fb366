-- At each turn the pages before place j go on at stride d, and what is left of the stride lies behind it.
use Rattle.std.proofs.Common.{◌≡◌, ◌+◌, ◌-◌, ◌/◌, ◌≤◌, ◌<◌, length, get_or}
use Rattle.learn.proofs.Strides.{onward}
use Rattle.learn.proofs.runs.stride_end.Given as goal

abbrev pub invariant-loop-j : goal.invariant-loop-j
invariant-loop-j l = record {
  on : l.i ≤ l.j;
  inside : l.j < length l.written;
  group : get_or l.written l.j 0 / 256 ≡ l.k;
  left : onward l.written l.k l.d l.i ≡ l.j - l.i + onward l.written l.k l.d l.j;
}

abbrev pub decreases-loop-j : goal.decreases-loop-j
decreases-loop-j l = length l.written - l.j
