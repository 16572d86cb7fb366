-- `rise` meets its contract: one law for each kind.
use Rattle.std.proofs.Common.{rules}
use Rattle.record.proofs.Pages.{rise-single, rise-strided, rise_sloped}
use Rattle.record.proofs.Record.rise.Goals as goal

pub returns-then-self-eq0 : goal.returns-then-self-eq0
returns-then-self-eq0 c = search (rise-single, rules)

pub returns-then-self-eq0-2 : goal.returns-then-self-eq0-2
returns-then-self-eq0-2 c = search (rise-strided, rules)

pub returns-else-self-eq0-2 : goal.returns-else-self-eq0-2
returns-else-self-eq0-2 c = search (rise_sloped, rules)
