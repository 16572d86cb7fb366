-- `stride` meets its contract: the record is a single or accurate.
use Rattle.std.proofs.Common.{rules}
use Rattle.record.proofs.Strided.{single-strided, accurate-strided}
use Rattle.record.proofs.Record.stride.Goals as goal

pub returns-then-self-eq0 : goal.returns-then-self-eq0
returns-then-self-eq0 c = search (single-strided, rules)

pub returns-else-self-eq0 : goal.returns-else-self-eq0
returns-else-self-eq0 c = search (accurate-strided, rules)
