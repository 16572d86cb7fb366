use Rattle.std.proofs.Common.{refl, sym, ◌∙◌, arith}
use Rattle.lookup.proofs.WhyLeft.{gap_on, gap_all}
use Rattle.lookup.proofs.why.put_gap.Goals as goal

pub loop-i-init : goal.loop-i-init
loop-i-init c = refl

pub put_entry-requires : goal.put_entry-requires
put_entry-requires c = (omega (arith, c.requires.0), omega (arith, c.requires.1, c.loop-i-test.true), c.no_entry.ensures.fits)

pub loop-i-preserved : goal.loop-i-preserved
loop-i-preserved c = c.loop-i.invariant ∙ gap_on _ _ _ _ _ c.loop-i-test.true c.no_entry.ensures c.put_entry.ensures

pub returns : goal.returns
returns c = gap_all _ _ _ c.loop-i-test.false ∙ sym c.loop-i.invariant
