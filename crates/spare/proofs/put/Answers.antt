-- Fewer than m, and none may be written after them; or all m.
use Rattle.std.proofs.Common.{◌∙◌}
use Rattle.spare.proofs.Programming.{put_some, put_all}
use Rattle.spare.proofs.put.Goals as goal

pub returns-then-left-m-clause-written : goal.returns-then-left-m-clause-written
returns-then-left-m-clause-written c = c.copy.ensures ∙ (put_some _ _ _ _ _ c.if-left-m.true).1

pub returns-else-left-m-clause-written : goal.returns-else-left-m-clause-written
returns-else-left-m-clause-written c = c.copy-else-left-m.ensures ∙ put_all _ _ _ _ _ c.if-left-m.false
