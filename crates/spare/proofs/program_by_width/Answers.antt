-- One entry a page is written in one piece.
use Rattle.std.proofs.Common.{rules}
use Rattle.spare.proofs.Programming.{single-count, single-width}
use Rattle.spare.proofs.program_by_width.Goals as goal

pub returns-in-1 : goal.returns-in-1
returns-in-1 c = search (single-count, single-width, rules)
