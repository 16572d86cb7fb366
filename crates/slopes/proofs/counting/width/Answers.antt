-- `width` meets its contract.
use Rattle.slopes.proofs.WidthsFound.{width_none, width_some}
use Rattle.slopes.proofs.counting.width.Goals as goal

pub returns-then-high-low : goal.returns-then-high-low
returns-then-high-low c = width_none _ _ _ c.if-high-low.true

pub returns-else-high-low : goal.returns-else-high-low
returns-else-high-low c = width_some _ _ _ _ c.if-high-low.false c.min.ensures
