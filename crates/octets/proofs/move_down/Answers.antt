-- `move_down` meets its contract: a turn moves the first of the bytes that are left.
use Rattle.std.proofs.Common.{arith, sym, ◌∙◌, ◌≡◌, ◌-◌}
use lib.ListN.{length-set}
use Rattle.octets.proofs.Moves.{moved_none, down_start, down_turn}
use Rattle.octets.proofs.move_down.Goals as goal

pub loop-j-init : goal.loop-j-init
loop-j-init c = (omega arith, down_start _ _ _ _)

pub loop-j-preserved : goal.loop-j-preserved
loop-j-preserved c = (simp length-set (omega arith), down_turn _ _ _ _ _ c.loop-j-test.true (omega arith) ∙ c.loop-j.invariant.1)

pub returns : goal.returns
returns c =
    let e : c.args.n - c.loop-j.j ≡ 0 = omega arith in
    sym (moved_none _ _ _) ∙ rw e at c.loop-j.invariant.1
