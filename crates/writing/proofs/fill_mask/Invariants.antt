-- The offsets in the mask and those of the pages ahead are always the offsets of all.
use Rattle.std.proofs.Common.{◌≡◌, ◌||◌, ◌<◌, ℕ, drop}
use Rattle.model.specs.Lists.{elem}
use Rattle.model.specs.Demand2.{offsets}
use Rattle.record.specs.Scan.{masked}
use Rattle.writing.specs.Handed.{offsets_from}
use Rattle.writing.proofs.fill_mask.Given as goal

abbrev pub invariant-loop-page : goal.invariant-loop-page
invariant-loop-page l =
    (o : ℕ) → o < 256 → (masked l.mask o || elem o (offsets (drop l.page-index l.page-items))) ≡ elem o (offsets_from l.written l.at l.n)
