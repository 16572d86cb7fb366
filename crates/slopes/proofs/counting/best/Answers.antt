-- `best` meets its contract: at each turn the fit is the best of the slopes below `next`.
use Rattle.std.proofs.Common.{◌≡◌, ◌+◌, ◌≤◌, arith, ap, ◌∙◌}
use Rattle.model.specs.Learning.{Fit}
use Rattle.slopes.proofs.BestRun.{none_longer, longest-inside, below-size, below-turn, below-start, below_end}
use Rattle.slopes.proofs.counting.best.Goals as goal

pub slopes_to-w-requires : goal.slopes_to-w-requires
slopes_to-w-requires c =
    let p = c.requires in
    let inside = longest-inside c.args.s.now _ (omega (arith, p.0)) p.2 in
    (omega (arith, p.0), omega (arith, p.0, inside))

pub loop-next-init : goal.loop-next-init
loop-next-init c =
    let p = c.requires in
    below-start c.args.s.now _ (omega (arith, p.0)) p.2 _ _ _ (omega arith) c.slopes_to-w.ensures.1

pub better-f-requires : goal.better-f-requires
better-f-requires c =
    let p = c.requires in
    let loop = c.loop-next in
    let some : 1 ≤ c.args.size = omega (arith, p.0) in
    let size : loop.f.size ≡ c.args.size =
    ap (λ (f : Fit). f.size) loop.invariant ∙ below-size c.args.s.now _ some p.2 loop.next in
    let inside = longest-inside c.args.s.now _ some p.2 in (
      omega arith,
      omega (arith, size, some),
      omega (arith, size, p.1),
      omega (arith, size, inside),
      λ k h. rw size (none_longer c.args.s.now _ some p.2 _ (omega arith)),
    )

pub loop-next-preserved : goal.loop-next-preserved
loop-next-preserved c =
    let p = c.requires in
    let loop = c.loop-next in
    below-turn c.args.s.now _ (omega (arith, p.0)) p.2 _ _ loop.next _ c.min.ensures
    (omega (arith, c.loop-next-test.true, c.slopes_to-w.ensures.0)) loop.invariant c.better-f.ensures

pub returns : goal.returns
returns c =
    let p = c.requires in
    below_end c.args.s.now _ (omega (arith, p.0)) p.2 _ _ _ (omega arith) c.slopes_to-w.ensures.1 _ c.loop-next.next c.loop-next-test.false
    c.loop-next.invariant

pub returns-2 : goal.returns-2
returns-2 c =
    let p = c.requires in
    let loop = c.loop-next in
    let some : 1 ≤ c.args.size = omega (arith, p.0) in
    below_end c.args.s.now _ some p.2 _ _ _ (omega arith) c.slopes_to-w.ensures.1 _ (loop.next + 32) (omega arith)
    (below-turn c.args.s.now _ some p.2 _ _ loop.next _ c.min.ensures
    (omega (arith, c.loop-next-test.true, c.slopes_to-w.ensures.0)) loop.invariant c.better-f.ensures)
