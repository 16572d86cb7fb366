-- The entry names a page or not.
use Rattle.std.proofs.Common.{◌+◌, arith}
use Rattle.plain.specs.Table.{no_page}
use Rattle.plainstate.proofs.Shaping.{length-entries}
use Rattle.plainstate.proofs.NamedPages.{told_most, named_more}
use Rattle.plainstate.proofs.naming.count_names.Goals as goal

pub loop-j-preserved : goal.loop-j-preserved
unfolding no_page
loop-j-preserved c = record {
  few = omega (arith, told_most c.entry.result);
  count = omega (arith, named_more _ (c.args.x + c.loop-j.j) _ (omega (arith, length-entries _ _ c.requires.0)) c.entry.ensures (c.args.x + (c.loop-j.j + 1)) (omega arith));
}
