-- `meets` meets its contract: by which of the two ranges starts first.
use Rattle.record.proofs.Members.{meets-above, meets_from}
use Rattle.record.proofs.Record.meets.Goals as goal

pub returns-then-self-other : goal.returns-then-self-other
returns-then-self-other c = λ L K. meets-above _ _ c.if-self-other.true

pub returns-else-self-other : goal.returns-else-self-other
returns-else-self-other c = λ L K. meets_from _ _ c.if-self-other.false
