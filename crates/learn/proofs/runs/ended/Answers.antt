-- `ended` meets its contract.
use Rattle.std.proofs.Common.{rules, ◌∙◌}
use borrow.Author.Tests.{le-leb}
use Rattle.slopes.proofs.AheadOf.{ended_at, ended-past}
use Rattle.learn.proofs.runs.ended.Goals as goal

pub returns-then-written-j : goal.returns-then-written-j
returns-then-written-j c = le-leb _ _ c.if-written-j.true ∙ ended-past _ _ _ c.if-written-j.true

pub returns-else-written-j : goal.returns-else-written-j
returns-else-written-j c = search (ended_at, rules)
