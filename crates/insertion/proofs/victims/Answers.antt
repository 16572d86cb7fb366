-- `victims` meets its contract: a record less is left, or the first that stands behind r's place is there.
use native.Mathlib.Omega.{arith}
use Rattle.model.specs.Sound.{ordered}
use Rattle.model.proofs.Bools.{all_head}
use Rattle.insertion.proofs.MakingWay.{making_start, making_facing, making_turn, making_end}
use Rattle.insertion.proofs.victims.Goals as goal
use Rattle.insertion.proofs.victims.Goals.{in-Passed, in-Taken}

pub loop-k-init : goal.loop-k-init
loop-k-init c =
    let met = c.first_met-i.ensures in
    let ends = c.level_end-z.ensures.1 in
    record {
      inside = omega (arith, met.0);
      making = λ q.
          let z = ends q.top q.rest q.shown.slots in
          making_start _ _ _ _ _ _ q.shown q.in_order q.filled met.0 z (met.1 q.top q.rest q.shown.slots z (all_head (ordered 0) q.top q.rest q.in_order));
    }

pub turn-requires : goal.turn-requires
turn-requires c = (making_facing _ _ _ _ _ _ (c.loop-k.invariant.making c.requires.0) c.loop-k-test.true, c.requires.1)

pub loop-k-preserved : goal.loop-k-preserved
loop-k-preserved c =
    elim c.match-turn.branch [
      | in-Passed w ↦ record {
        inside = omega arith;
        making = λ q. rw w.i-is (making_turn _ _ _ _ _ _ (c.loop-k.invariant.making q) c.loop-k-test.true _ _ _ (λ f. c.turn.ensures f q.owned q.members) w.in-Passed.is);
      }
      | in-Taken w ↦ record {
        inside = omega arith;
        making = λ q. rw w.i-is (making_turn _ _ _ _ _ _ (c.loop-k.invariant.making q) c.loop-k-test.true _ _ _ (λ f. c.turn.ensures f q.owned q.members) w.in-Taken.is);
      }
    ]

pub returns-in-Behind : goal.returns-in-Behind
returns-in-Behind c = λ q.
    making_turn _ _ _ _ _ _ (c.loop-k.invariant.making q) c.loop-k-test.true _ _ _ (λ f. c.turn.ensures f q.owned q.members) c.in-Behind.is

pub returns : goal.returns
returns c = λ q. making_end _ _ _ _ _ _ (c.loop-k.invariant.making q) (omega arith)
