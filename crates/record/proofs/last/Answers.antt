-- `last` meets its contract: at each turn those after o fail the test; f passes it.
use Rattle.std.proofs.Common.{arith, sym, ap, ◌∙◌, ◌≡◌}
use Rattle.record.proofs.Strides.{room_down, step_down}
use Rattle.record.proofs.Scans.{down_start, down_step}
use Rattle.record.proofs.last.Goals as goal

pub loop-o-init : goal.loop-o-init
loop-o-init g c = record { low = c.requires.bounds.1; high = omega arith; step = c.requires.bounds.3; failed = λ t tells. down_start t _ _ _ c.requires.bounds.1 c.requires.bounds.3 }

pub returns-then-test : goal.returns-then-test
returns-then-test g c = λ t tells here.
    let passed = sym (tells _ _ c.loop-o.invariant.low c.loop-o.invariant.high c.test.ensures) ∙ c.if-test.true in
    (c.loop-o.invariant.failed t tells, passed)

pub overflow_sub-o : goal.overflow_sub-o
overflow_sub-o g c = omega (arith, room_down _ _ _ c.loop-o-test.true c.loop-o.invariant.step)

pub loop-o-preserved : goal.loop-o-preserved
loop-o-preserved g c = record {
  low = omega (arith, room_down _ _ _ c.loop-o-test.true c.loop-o.invariant.step);
  high = omega (arith, c.loop-o.invariant.high);
  step = step_down _ _ _ c.loop-o-test.true c.loop-o.invariant.step;
  failed = λ t tells.
      let failed = sym (tells _ _ c.loop-o.invariant.low c.loop-o.invariant.high c.test.ensures) ∙ c.if-test.false in
      down_step t _ _ _ _ c.requires.bounds.0 c.loop-o-test.true (c.loop-o.invariant.failed t tells) failed;
}

pub returns : goal.returns
returns g c = λ t tells here.
    let e : c.loop-o.o ≡ c.args.f = omega (arith, c.loop-o.invariant.low) in
    (c.loop-o.invariant.failed t tells, ap t e ∙ here)
