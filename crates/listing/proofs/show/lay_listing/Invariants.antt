-- Behind the head line the lines of the first i records are laid out; each takes at most 56 characters.
use Rattle.std.proofs.Common.{◌+◌, ◌*◌, ◌≤◌}
use Rattle.lines.specs.Printed.{Laid}
use Rattle.listing.specs.Listing.{lines_in}
use Rattle.listing.proofs.show.lay_listing.Given as goal

abbrev pub invariant-loop-i : goal.invariant-loop-i
invariant-loop-i l = (l.at ≤ l.initial.at + 56 * l.i) × Laid l.initial.out l.out l.initial.at l.at (lines_in l.i l.listing)
