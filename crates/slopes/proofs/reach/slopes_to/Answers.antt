-- `slopes_to` meets its contract: by the range of slopes that rise enough from the first page to this one, and not too much.
use Rattle.std.proofs.Common.{arith}
use Rattle.slopes.proofs.SlopeRange.{apart, slope_first, slope_last}
use Rattle.slopes.proofs.reach.slopes_to.Goals as goal

pub overflow_sub-d : goal.overflow_sub-d
overflow_sub-d c = let pre = c.requires in omega (arith, apart c.args.s.now _ pre.0 pre.1)

pub nonzero_div-most : goal.nonzero_div-most
nonzero_div-most c = let pre = c.requires in omega (arith, apart c.args.s.now _ pre.0 pre.1)

pub nonzero_div-first : goal.nonzero_div-first
nonzero_div-first c = let pre = c.requires in omega (arith, apart c.args.s.now _ pre.0 pre.1)

pub returns-then-least-from : goal.returns-then-least-from
returns-then-least-from c =
    let pre = c.requires in (
      omega (arith, c.min-last.ensures),
      λ a h k. (
        omega arith,
        slope_last c.args.s.now _ pre.0 pre.1 a h k _ _ _ c.highest-most.ensures c.lowest-down.ensures c.min-last.ensures,
      ),
    )

pub returns-else-least-from : goal.returns-else-least-from
returns-else-least-from c =
    let pre = c.requires in (
      omega (arith, c.min-last.ensures),
      λ a h k. (
        slope_first c.args.s.now _ pre.0 pre.1 a h k _ _ c.lowest-least.ensures c.highest-from.ensures (omega (arith, c.if-least-from.false)),
        slope_last c.args.s.now _ pre.0 pre.1 a h k _ _ _ c.highest-most.ensures c.lowest-down.ensures c.min-last.ensures,
      ),
    )
