-- `raise` meets its contract: at each turn k slopes have their new most and choice.
use Rattle.std.proofs.Common.{◌≡◌, arith, ◌∙◌}
use Rattle.slopes.specs.Counting.{raised_most, raised_choice}
use Rattle.slopes.proofs.HowMany.{picks_first, picks_second}
use Rattle.slopes.proofs.Stores.{storing_turn}
use Rattle.slopes.proofs.counting.raise.Goals as goal
use Rattle.slopes.proofs.counting.raise.Goals.{then-t, else-t, then-t-2, else-t-2}

pub loop-k-preserved : goal.loop-k-preserved
loop-k-preserved c =
    let a = c.args in
    let loop = c.loop-k in
    let most = loop.invariant.most in
    let choice = loop.invariant.choice in
    let same = most.behind loop.k (omega arith) in
    let m : c.if-t.most ≡ raised_most a.to a.c a.tally.now a.widths.now loop.most loop.k =
    elim c.if-t.branch [ then-t w ↦ w.most-is ∙ picks_first _ _ _ w.if-t.true | else-t w ↦ w.most-is ∙ picks_second _ _ _ w.if-t.false ] in
    let h : c.if-t-2.choice ≡ raised_choice a.to a.c a.tally.now a.widths.now loop.most loop.choice loop.k =
    elim c.if-t-2.branch [
      | then-t-2 w ↦ w.choice-is ∙ picks_first _ _ _ w.if-t-2.true
      | else-t-2 w ↦ w.choice-is ∙ picks_second _ _ _ w.if-t-2.false
    ] in record {
      most = storing_turn _ _ _ _ _ _ _ (omega arith) (omega arith) c.loop-k-test.true (rw same at m) most;
      choice = storing_turn _ _ _ _ _ _ _ (omega arith) (omega arith) c.loop-k-test.true
          (rw (same, choice.behind loop.k (omega arith)) at h) choice;
    }
