-- `border` meets its contract: the half that the number in the middle rules out goes.
use Rattle.std.proofs.Common.{arith, sym, ◌∙◌, ◌≡◌}
use Rattle.insertion.proofs.Searches.{border_start, border_up, border_down}
use Rattle.insertion.proofs.border.Goals as goal

pub loop-low-init : goal.loop-low-init
loop-low-init g c = record { inside = omega arith; turns = λ t told. border_start t _ }

pub loop-low-preserved-then-test : goal.loop-low-preserved-then-test
loop-low-preserved-then-test g c = record {
  inside = c.loop-low.invariant.inside;
  turns = λ t told. border_up t _ _ _ (c.loop-low.invariant.turns t told) _ (omega arith) (omega arith) (sym (told _ _ (omega arith) c.test.ensures) ∙ c.if-test.true);
}

pub loop-low-preserved : goal.loop-low-preserved
loop-low-preserved g c = record {
  inside = omega arith;
  turns = λ t told. border_down t _ _ _ (c.loop-low.invariant.turns t told) _ (omega arith) (omega arith) (sym (told _ _ (omega arith) c.test.ensures) ∙ c.if-test.false);
}

pub returns : goal.returns
returns g c = λ t told.
    let so = c.loop-low.invariant.turns t told in
    let end : c.loop-low.high ≡ c.loop-low.low = omega (arith, so.order) in
    rw end at so
