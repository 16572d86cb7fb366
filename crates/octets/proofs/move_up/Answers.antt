-- `move_up` meets its contract: a turn moves the last of the bytes that are left.
use Rattle.std.proofs.Common.{arith, sym, ◌∙◌, ◌≡◌}
use lib.ListN.{length-set}
use Rattle.octets.proofs.Moves.{moved_none, up_turn}
use Rattle.octets.proofs.move_up.Goals as goal

pub loop-j-preserved : goal.loop-j-preserved
loop-j-preserved c = (simp length-set (omega arith), up_turn _ _ _ _ c.loop-j-test.true (omega arith) ∙ c.loop-j.invariant.1)

pub returns : goal.returns
returns c =
    let e : c.loop-j.j ≡ 0 = omega arith in
    sym (moved_none _ _ _) ∙ rw e at c.loop-j.invariant.1
