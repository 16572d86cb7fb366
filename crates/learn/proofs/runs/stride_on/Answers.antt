-- `stride_on` meets its contract: at each turn the pages go on at stride d up to place j.
use Rattle.std.proofs.Common.{◌+◌, arith, sym, ◌∙◌}
use Rattle.slopes.proofs.AheadOf.{Goes, ahead_some}
use Rattle.learn.proofs.Strides.{strides_on}
use Rattle.learn.proofs.runs.stride_on.Goals as goal

pub steps-requires : goal.steps-requires
steps-requires c = (c.requires.0, (ahead_some _ _ _ (sym c.ended.ensures ∙ c.loop-j-test.true)).inside)

pub loop-j-smaller : goal.loop-j-smaller
loop-j-smaller c = omega (arith, (ahead_some _ _ _ (sym c.ended.ensures ∙ c.loop-j-test.true)).inside)

pub loop-j-preserved : goal.loop-j-preserved
loop-j-preserved c =
    let v = c.loop-j.invariant in
    let g : Goes c.args.written.now c.args.k (c.loop-j.j + 16) = ahead_some _ _ _ (sym c.ended.ensures ∙ c.loop-j-test.true) in record {
      on = omega (arith, v.on);
      inside = g.inside;
      group = g.group;
      strides = strides_on _ _ _ _ _ v.strides (c.steps.ensures c.if-steps.true);
    }
