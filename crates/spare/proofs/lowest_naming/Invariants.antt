-- What the whole search finds is what the search from entry j on finds.
use Rattle.std.proofs.Common.{◌≡◌, ◌-◌}
use Rattle.model.specs.Device.{names_per_page}
use Rattle.model.specs.Spare.{lowest_naming}
use Rattle.front.specs.Read.{numbers_of}
use Rattle.spare.proofs.lowest_naming.Given as goal

abbrev pub invariant-loop-j : goal.invariant-loop-j
invariant-loop-j l =
    lowest_naming (numbers_of l.d) l.spare l.p l.x 0 (names_per_page (numbers_of l.d))
    ≡ lowest_naming (numbers_of l.d) l.spare l.p l.x l.j (l.j-end - l.j)
