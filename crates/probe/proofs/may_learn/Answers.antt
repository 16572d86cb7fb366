-- Each test as its law says.
use native.Mathlib.Omega.{arith}
use Rattle.probe.proofs.Batches.{many, too_far, wide, no_bytes, no_counts, order_decides}
use Rattle.probe.proofs.may_learn.Goals as goal

pub returns-then-n-gt-BATCH : goal.returns-then-n-gt-BATCH
returns-then-n-gt-BATCH c = many _ _ _ _ _ c.if-n-gt-BATCH.true

pub returns-then-first-gt-PAGES : goal.returns-then-first-gt-PAGES
returns-then-first-gt-PAGES c = too_far _ _ _ _ _ (omega arith) (omega arith)

pub returns-then-first-n-gt-PAGES : goal.returns-then-first-n-gt-PAGES
returns-then-first-n-gt-PAGES c = too_far _ _ _ _ _ (omega arith) (omega arith)

pub returns-then-g-gt-BOUND : goal.returns-then-g-gt-BOUND
returns-then-g-gt-BOUND c = wide _ _ _ _ _ (omega arith) (omega arith) c.if-g-gt-BOUND.true

pub returns-then-o-n : goal.returns-then-o-n
returns-then-o-n c = no_bytes _ _ _ _ _ (omega arith) (omega arith) (omega arith) c.if-o-n.true

pub returns-then-t-n : goal.returns-then-t-n
returns-then-t-n c = no_counts _ _ _ _ _ (omega arith) (omega arith) (omega arith) (omega arith) c.if-t-n.true

pub returns : goal.returns
returns c = order_decides _ _ _ _ _ (omega arith) (omega arith) (omega arith) (omega arith) (omega arith) _ c.ascends.ensures
