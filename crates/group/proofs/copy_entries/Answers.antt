-- `copy_entries` meets its contract: an entry more, and in the end all.
use Prim.Native.Nat.{◌<◌}
use native.Mathlib.Omega.{arith}
use borrow.Author.Rules.{rules}
use lib.ListN.{length}
use Rattle.model.specs.Device.{group_length}
use Rattle.group.specs.Layout.{entry_of}
use Rattle.group.proofs.Cases.{entries-turn, entries-done}
use Rattle.group.proofs.copy_entries.Goals as goal

pub get_u16-requires : goal.get_u16-requires
unfolding group_length
get_u16-requires c = search rules

pub loop-o-preserved : goal.loop-o-preserved
unfolding entry_of
loop-o-preserved c =
    let below : c.loop-o.o < length c.loop-o.owners = omega arith in
    entries-turn c.args.b.now c.loop-o.owners _ _ below c.get_u16.ensures.0 c.loop-o.invariant

pub returns : goal.returns
returns c = entries-done _ _ (omega arith) (λ x h. c.loop-o.invariant x (omega arith))
