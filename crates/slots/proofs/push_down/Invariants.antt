-- At each turn the slots from j on are left to push down.
use Rattle.group.specs.Layout.{slots_of}
use Rattle.slots.specs.Edits.{push_down_from}
use Rattle.slots.proofs.SlotPass.{Changing, Lowerable}
use Rattle.slots.proofs.push_down.Given as goal

abbrev pub invariant-loop-j : goal.invariant-loop-j
invariant-loop-j l = record {
  changing : Changing (push_down_from 0) (push_down_from l.i (slots_of l.fn.b)) l.fn.b l.b l.n l.j;
  lowerable : Lowerable l.b l.n l.j;
}
