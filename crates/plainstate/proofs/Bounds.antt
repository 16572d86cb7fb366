-- Whatever a call on bytes answers is bounded, so its fields hold it. Assumes nothing.
use mathlib.Core.Path.{sym, subst}
use mathlib.Core.List.{List}
use Prim.Native.Nat.{ℕ}
use Rattle.calls.specs.Outcome.{Answer}
use Rattle.calls.specs.Bounds.{Bounded}
use Rattle.plain.specs.Calls.{Common}
use Rattle.plain.proofs.Bounds.{run_bounded}
use Rattle.front.proofs.CountsRead.{length-read}
use Rattle.plainstate.specs.Reading.{read_table}
use Rattle.plainstate.specs.Ran.{Slices, Ran}

pub ran_bounded : {c : Common} {state : List ℕ} {a : Answer} {left : Slices} → Ran c state a left → Bounded a
unfolding read_table
ran_bounded {c} {state} r = subst (λ (a : Answer). Bounded a) (sym r.answered) (run_bounded c (read_table state) (length-read _ state))
