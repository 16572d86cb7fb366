-- `first` meets its contract: at each turn those before o fail the test.
use Rattle.std.proofs.Common.{arith, sym, ◌∙◌}
use Rattle.model.specs.Options.{as_option}
use Rattle.record.proofs.Scans.{up_start, up_step, found_here, found_nowhere}
use Rattle.record.proofs.first.Goals as goal

pub loop-o-init : goal.loop-o-init
loop-o-init g c = record { low = omega arith; failed = λ t tells. up_start t _ _ }

pub returns-then-test-clause-found : goal.returns-then-test-clause-found
unfolding as_option
returns-then-test-clause-found g c = λ t tells.
    let passed = sym (tells _ _ c.loop-o.invariant.low c.loop-o-test.true c.test.ensures) ∙ c.if-test.true in
    found_here t _ _ _ _ (c.loop-o.invariant.failed t tells) c.loop-o-test.true passed

pub loop-o-preserved : goal.loop-o-preserved
loop-o-preserved g c = record {
  low = omega arith;
  failed = λ t tells.
      let failed = sym (tells _ _ c.loop-o.invariant.low c.loop-o-test.true c.test.ensures) ∙ c.if-test.false in
      up_step t _ _ _ (c.loop-o.invariant.failed t tells) failed;
}

pub returns-clause-found : goal.returns-clause-found
unfolding as_option
returns-clause-found g c = λ t tells. found_nowhere t _ _ _ _ (c.loop-o.invariant.failed t tells) c.loop-o-test.false
