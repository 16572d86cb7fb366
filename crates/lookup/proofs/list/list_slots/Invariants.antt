-- What is left to store makes the whole.
use Rattle.std.proofs.Common.{◌≡◌}
use Rattle.model.specs.Lists.{store}
use Rattle.group.specs.Layout.{slots_of}
use Rattle.lookup.proofs.Listing.{tens, listed_from}
use Rattle.lookup.proofs.list.list_slots.Given as goal

abbrev pub invariant-loop-i : goal.invariant-loop-i
invariant-loop-i l = store l.initial.out 0 (tens (slots_of l.b)) ≡ listed_from l.out (slots_of l.b) l.i
