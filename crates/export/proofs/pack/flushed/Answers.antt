-- The count, then the first page.
use Rattle.export.specs.Packing.{packed}
use Rattle.export.proofs.pack.flushed.Goals as goal

pub returns : goal.returns
unfolding packed
returns c = rw (c.from.ensures, c.from-2.ensures)
