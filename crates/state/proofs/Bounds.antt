-- Whatever a call on bytes answers is bounded, so its fields hold it. Assumes nothing.
use mathlib.Core.Path.{sym, subst}
use mathlib.Core.List.{List}
use Prim.Native.Nat.{ℕ}
use Rattle.calls.specs.Outcome.{Answer}
use Rattle.calls.specs.History.{Call}
use Rattle.calls.specs.Bounds.{Bounded}
use Rattle.calls.proofs.Bounds.{run_bounded}
use Rattle.front.proofs.CountsRead.{length-read}
use Rattle.state.specs.Reading.{read_state}
use Rattle.state.specs.Ran.{Slices, Ran}

pub ran_bounded : {c : Call} {state spare : List ℕ} {a : Answer} {left : Slices} → Ran c state spare a left → Bounded a
unfolding read_state
ran_bounded {c} {state} {spare} r = subst (λ (a : Answer). Bounded a) (sym r.answered) (run_bounded c (read_state state) spare (length-read _ state))
