-- At each turn k records of level 0 are left, from slot i on.
use Rattle.std.proofs.Common.{◌+◌, ◌≤◌}
use Rattle.record.specs.Read.{as_record}
use Rattle.insertion.specs.Ready.{Parted}
use Rattle.insertion.proofs.MakingWay.{Making}
use Rattle.insertion.proofs.victims.Given as goal

abbrev pub invariant-loop-k : goal.invariant-loop-k
invariant-loop-k l = record {
  inside : l.i + l.k ≤ l.z;
  making : (q : Parted l.fn.b l.mask l.r) → Making (as_record l.r q.owned) q.top q.rest l.b l.k l.i;
}
