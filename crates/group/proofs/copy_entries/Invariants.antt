-- Below offset o the list has the entries.
use Rattle.std.proofs.Common.{◌≡◌, ℕ, ◌<◌}
use lib.ListN.{get_or}
use Rattle.group.specs.Layout.{entry_of}
use Rattle.group.proofs.copy_entries.Given as goal

abbrev pub invariant-loop-o : goal.invariant-loop-o
invariant-loop-o l = (x : ℕ) → x < l.o → get_or l.owners x 0 ≡ entry_of l.b x
