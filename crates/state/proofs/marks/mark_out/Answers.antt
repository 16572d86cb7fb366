use Rattle.std.proofs.Common.{arith}
use Rattle.state.proofs.MarkingOut.{out-start, out-turn, out-end}
use Rattle.state.proofs.marks.mark_out.Goals.{then-is_marked, else-is_marked}
use Rattle.state.proofs.marks.mark_out.Goals as goal

pub loop-o-init : goal.loop-o-init
loop-o-init c = out-start _ _ _

pub loop-o-preserved : goal.loop-o-preserved
loop-o-preserved c =
    elim c.if-is_marked.branch [
      | then-is_marked w ↦ out-turn _ _ _ _ _ _ c.loop-o.invariant (omega arith) (λ _. w.forecasts-is) (λ e. cc)
      | else-is_marked w ↦ out-turn _ _ _ _ _ _ c.loop-o.invariant (omega arith) (λ e. cc) (λ _. w.forecasts-is)
    ]

pub returns : goal.returns
returns c = out-end _ _ _ _ _ _ c.loop-o.invariant c.loop-o-test.false
