-- `suit` meets its contract: at each turn the intercepts are those of the pages before place q.
use Rattle.std.proofs.Common.{arith}
use Rattle.slopes.proofs.LineWindows.{window-line}
use Rattle.slopes.proofs.Narrowing.{windows_small, windows_by}
use Rattle.slopes.proofs.Suited.{windows_at}
use Rattle.slopes.proofs.counting.suit.Goals as goal

pub narrow_by-requires : goal.narrow_by-requires
narrow_by-requires c =
    let p = c.requires in
    let v = c.loop-q.invariant in
    let so = c.args.s.now.seeking in
    let small = windows_small _ _ _ _ p.2 _ _ _ so.size (omega (arith, v.past, v.to, p.1, so.end, so.size)) v.suits in
    (omega (arith, c.line_end-e.ensures.1, p.1), p.2, small.0, small.1)

pub loop-q-preserved : goal.loop-q-preserved
loop-q-preserved c =
    let p = c.requires in
    let v = c.loop-q.invariant in
    let line = c.line_end-e.ensures in record {
      past = omega (arith, line.0.low, v.past);
      to = omega (arith, line.1);
      suits =
          windows_at _ _ _ _ _ _ _ _ (omega arith)
          (windows_by _ _ _ _ p.2 _ _ _ _ _ _ _ (λ b h. window-line c.args.s.now b _ _ h v.past (omega (arith, line.1, p.1)) line.0) v.suits
          c.narrow_by.ensures);
    }
