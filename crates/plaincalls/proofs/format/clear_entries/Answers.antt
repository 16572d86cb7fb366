-- One entry more names no page.
use Rattle.std.proofs.Common.{arith}
use Rattle.plain.specs.Table.{no_page}
use Rattle.front.proofs.Filling.{fill_none, fill_next, fill_all}
use Rattle.plainstate.proofs.Shaping.{length-entries, shaped-entries}
use Rattle.plaincalls.proofs.Filling.{entries}
use Rattle.plaincalls.proofs.format.clear_entries.Goals as goal

pub loop-x-init : goal.loop-x-init
loop-x-init c = record { shape = c.requires; so = fill_none no_page entries _ _ (length-entries _ _ c.requires) }

pub loop-x-preserved : goal.loop-x-preserved
unfolding no_page
loop-x-preserved c = record {
  shape = rw c.set_entry.ensures (shaped-entries _ _ _ c.loop-x.invariant.shape);
  so = fill_next no_page entries _ _ (length-entries _ _ c.requires) _ _ _ c.loop-x.invariant.so c.loop-x-test.true c.set_entry.ensures;
}

pub returns : goal.returns
returns c = fill_all no_page entries _ _ (length-entries _ _ c.requires) _ _ c.loop-x.invariant.so (omega arith)
