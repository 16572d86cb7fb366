-- `find_lines` meets its contract: at each turn the places from j on have the ends of their lines.
use Rattle.std.proofs.Common.{◌+◌, ◌-◌, ◌<◌, arith}
use Rattle.model.proofs.Ascent.{rises}
use Rattle.slopes.proofs.LinesFound.{found-own, found_more}
use Rattle.slopes.proofs.lines.find_lines.Goals as goal
use Rattle.slopes.proofs.lines.find_lines.Goals.{then-here-stride, else-here-stride}

pub overflow_sub-here-in-loop-j : goal.overflow_sub-here-in-loop-j
overflow_sub-here-in-loop-j c =
    let j = c.loop-j.j - 1 in
    let h : j - 1 < j = omega (arith, c.loop-j-test.true) in
    omega (arith, rises c.args.written.now (j - 1) j c.requires.0 h (omega (arith, c.loop-j.invariant.small, h)))

pub loop-j-preserved : goal.loop-j-preserved
loop-j-preserved c =
    let pre = c.requires in
    let low : c.args.i + 1 < c.loop-j.j = c.loop-j-test.true in
    elim c.if-here-stride.branch [
      | then-here-stride w ↦ found-own _ _ _ _ _ _ _ c.loop-j.invariant pre.0 pre.2 pre.3 low _ w.end-is
      | else-here-stride w ↦ found_more _ _ _ _ _ _ _ c.loop-j.invariant pre.0 pre.2 pre.3 low _ w.if-here-stride.false w.end-is
    ]
