-- At each turn the slots before i have given up, and all but `counter` of them have had their turn.
use Rattle.std.proofs.Common.{◌-◌, List}
use Rattle.record.specs.Scan.{masked}
use Rattle.group.specs.Cutting.{Placed}
use Rattle.insertion.specs.InsertSlots.{Noted}
use Rattle.insertion.specs.Shown.{Shown}
use Rattle.insertion.proofs.GivingUp.{GivingUp}
use Rattle.insertion.proofs.give_up_all.Given as goal

abbrev pub invariant-loop : goal.invariant-loop
invariant-loop l = record {
  noted : Noted l.b l.taken l.losers;
  giving : (p : List Placed) → Shown l.fn.b p → GivingUp (masked l.taken) p l.b (l.n - l.counter) l.i;
}
