-- `shaped` meets its contract: a law of the shape for each answer.
use borrow.Author.Rules.{rules}
use Rattle.group.proofs.Tests.{shaped-past, shaped-slope, shaped-wide, shaped-point, shaped-narrow, shaped-stride}
use Rattle.group.proofs.shaped.Goals as goal

pub returns-then-m-r : goal.returns-then-m-r
returns-then-m-r c = search (shaped-past, rules)

pub returns-then-w-eq1 : goal.returns-then-w-eq1
returns-then-w-eq1 c = search (shaped-slope, rules)

pub returns-then-w-gt-WIDEST : goal.returns-then-w-gt-WIDEST
returns-then-w-gt-WIDEST c = search (shaped-wide, rules)

pub returns-then-r-eq0 : goal.returns-then-r-eq0
returns-then-r-eq0 c = search (shaped-point, rules)

pub returns-then-w-le-STRIDE_1 : goal.returns-then-w-le-STRIDE_1
returns-then-w-le-STRIDE_1 c = search (shaped-narrow, rules)

pub returns-else-w-le-STRIDE_1 : goal.returns-else-w-le-STRIDE_1
returns-else-w-le-STRIDE_1 c = search (shaped-stride, rules)
