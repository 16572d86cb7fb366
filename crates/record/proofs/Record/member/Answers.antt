-- `member` meets its contract: one law of the members for each way to return.
use Rattle.std.proofs.Common.{sym, ◌∙◌}
use borrow.Author.Tests.{le-leb}
use Rattle.record.proofs.Members.{member-outside, member-owned, member-every, member-strided}
use Rattle.record.proofs.Words.{odd_is}
use Rattle.record.proofs.Record.member.Goals as goal

pub returns-then-self-x : goal.returns-then-self-x
returns-then-self-x c = λ L owns. member-outside _ _ c.requires.0 c.requires.1 c.if-self-x.true (λ a h. (owns a).1 (sym (owns a).0 ∙ h))

pub returns-then-w-eq1 : goal.returns-then-w-eq1
returns-then-w-eq1 c = λ L owns. sym (owns (odd_is _ c.if-w-eq1.true)).0 ∙ member-owned _ _ c.if-w-eq1.true

pub returns-then-w-le2 : goal.returns-then-w-le2
returns-then-w-le2 c = λ L owns. le-leb _ _ c.if-w-le2.true ∙ member-every _ _ c.requires.0 c.requires.1 c.if-self-x.false c.if-w-eq1.false c.requires.2 c.if-w-le2.true

pub returns-else-w-le2 : goal.returns-else-w-le2
returns-else-w-le2 c = λ L owns. member-strided _ _ c.requires.0 c.requires.1 c.if-self-x.false c.if-w-eq1.false c.if-w-le2.false
