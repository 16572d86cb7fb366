-- The entry's page has a bit, and is marked.
use Rattle.std.proofs.Common.{◌+◌, refl, arith}
use Rattle.plainstate.proofs.Shaping.{length-entries}
use Rattle.plainstate.proofs.NamedPages.{page_named}
use Rattle.plainstate.proofs.naming.name_each.Goals as goal

pub loop-j-preserved : goal.loop-j-preserved
loop-j-preserved c =
    page_named _ _ (c.args.x + c.loop-j.j) _ _ (omega (arith, c.requires.2, length-entries _ _ c.requires.0)) c.entry-e.ensures _ c.loop-j.invariant
    (omega (arith, c.entry-e.ensures, c.requires.3 c.loop-j.j c.loop-j-test.true)) _ (omega arith) _ c.name_page.ensures refl
