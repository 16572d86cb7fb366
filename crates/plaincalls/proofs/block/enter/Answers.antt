-- What is entered so far and the pages left make the whole.
use Rattle.model.proofs.Lists.{elem-get_or}
use Rattle.model.proofs.Parts.{all_below}
use Rattle.plainstate.proofs.Shaping.{shaped-entries}
use Rattle.plaincalls.proofs.Entering.{enter_next, enter_all}
use Rattle.plaincalls.proofs.block.enter.Goals as goal

pub set_entry-requires : goal.set_entry-requires
set_entry-requires c = (c.loop-i.invariant.shape, all_below _ _ c.requires.1 _ (elem-get_or _ _ c.loop-i-test.true))

pub loop-i-preserved : goal.loop-i-preserved
loop-i-preserved c = record {
  shape = rw c.set_entry.ensures (shaped-entries _ _ _ c.loop-i.invariant.shape);
  so = enter_next _ _ _ _ _ _ c.loop-i.invariant.so c.loop-i-test.true c.set_entry.ensures;
}

pub returns : goal.returns
returns c = enter_all _ _ _ _ _ c.loop-i.invariant.so c.loop-i-test.false
