-- `stride_end` meets its contract: at each turn the pages before place j go on at stride d, and what is left of the stride lies behind it.
use Rattle.std.proofs.Common.{◌+◌, ◌/◌, get_or, arith, sym, ◌∙◌}
use Rattle.slopes.specs.Places.{offsets_behind}
use Rattle.slopes.proofs.AheadOf.{ahead_some, ahead_none}
use Rattle.model.proofs.Ascent.{rises}
use Rattle.learn.proofs.Strides.{stride-ends, stride-goes, stride_breaks, onward_to}
use Rattle.learn.proofs.runs.stride_end.Goals as goal

pub bounds-written-j : goal.bounds-written-j
bounds-written-j c = (ahead_some _ _ _ (sym c.ended.ensures ∙ c.loop-j-test.true)).inside

pub overflow_sub-written : goal.overflow_sub-written
overflow_sub-written c =
    let j = c.loop-j.j in
    omega (arith, rises _ j (j + 1) c.requires.1 (omega arith) (ahead_some _ _ _ (sym c.ended.ensures ∙ c.loop-j-test.true)).inside)

pub stride_on-j-requires : goal.stride_on-j-requires
stride_on-j-requires c =
    let g = ahead_some _ _ _ (sym c.ended.ensures ∙ c.loop-j-test.true) in
    (c.requires.1, g.inside, g.group)

pub loop-j-preserved-then-j-i : goal.loop-j-preserved-then-j-i
loop-j-preserved-then-j-i c =
    let v = c.loop-j.invariant in
    let s = c.stride_on-j.ensures in
    let g = ahead_some _ _ _ (sym c.ended.ensures ∙ c.loop-j-test.true) in
    let step = stride-goes _ _ _ _ c.requires.1 v.group g c.if-written-j.true in
    let far = onward_to _ _ _ c.requires.1 _ _ g.group s.0 s.1 s.2 s.3 in record {
      on = omega (arith, v.on, s.0);
      inside = s.1;
      group = s.2;
      left = omega (arith, v.on, v.left, s.0, step, far);
    }

pub loop-j-smaller : goal.loop-j-smaller
loop-j-smaller c = omega (arith, (ahead_some _ _ _ (sym c.ended.ensures ∙ c.loop-j-test.true)).inside)

pub loop-j-preserved : goal.loop-j-preserved
loop-j-preserved c =
    let v = c.loop-j.invariant in
    let g = ahead_some _ _ _ (sym c.ended.ensures ∙ c.loop-j-test.true) in
    let step = stride-goes _ _ _ _ c.requires.1 v.group g c.if-written-j.true in record {
      on = omega (arith, v.on);
      inside = g.inside;
      group = g.group;
      left = omega (arith, v.on, v.left, step);
    }

pub returns-else-written-j : goal.returns-else-written-j
unfolding offsets_behind
returns-else-written-j c =
    let v = c.loop-j.invariant in
    let g = ahead_some _ _ _ (sym c.ended.ensures ∙ c.loop-j-test.true) in
    let e = stride_breaks _ _ _ _ c.requires.1 v.group g c.if-written-j.false in
    (omega (arith, v.on, v.left, e), v.inside)

pub returns-after-loop-j : goal.returns-after-loop-j
unfolding offsets_behind
returns-after-loop-j c =
    let v = c.loop-j.invariant in
    let w = c.args.written.now in
    let k = get_or w c.args.i 0 / 256 in
    let e = stride-ends w k c.args.d c.loop-j.j (ahead_none w k (c.loop-j.j + 1) (sym c.ended.ensures ∙ c.loop-j-test.false)) in
    (omega (arith, v.on, v.left, e), v.inside)
