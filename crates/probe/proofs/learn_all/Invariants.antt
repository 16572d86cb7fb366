-- The runs before the place are stored, and what is left makes the whole.
use borrow.Author.Rules.{rules}
use Prim.Native.Nat.{◌-◌}
use mathlib.Core.Path.{sym, subst}
use native.Mathlib.Omega.{arith}
use lib.ListN.{length}
use Rattle.model.specs.Learning.{learn}
use Rattle.record.specs.declared.Record.{Record}
use Rattle.record.specs.Coding.{InEight}
use Rattle.model.specs.Demand2.{bounds_of}
use Rattle.learn.specs.Runs.{run_at}
use Rattle.learn.proofs.RunHeld.{Held, held}
use Rattle.learn.proofs.Storing.{Stored, stored-start, stored_next, stored_all}
use Rattle.probe.proofs.Bytes.{Bytes, bytes-start, bytes_next, bytes_all}
use Rattle.probe.proofs.learn_all.Given as goal

abbrev pub invariant-loop-i : goal.invariant-loop-i
invariant-loop-i l = Stored (bounds_of l.g l.first l.written) l.written l.initial.taken l.taken l.i l.n × Bytes (bounds_of l.g l.first l.written) l.written l.initial.out l.out l.i l.n

abbrev pub decreases-loop-i : goal.decreases-loop-i
decreases-loop-i l = length l.written - l.i
