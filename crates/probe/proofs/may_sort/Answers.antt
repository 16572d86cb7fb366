-- Each test as its law says.
use native.Mathlib.Omega.{arith}
use Rattle.probe.proofs.Batches.{too_long, no_pages, no_arrivals, pages_decide}
use Rattle.probe.proofs.may_sort.Goals as goal

pub returns-then-n-gt-BATCH : goal.returns-then-n-gt-BATCH
returns-then-n-gt-BATCH c = too_long _ _ _ c.if-n-gt-BATCH.true

pub returns-then-p-n : goal.returns-then-p-n
returns-then-p-n c = no_pages _ _ _ (omega arith) c.if-p-n.true

pub returns-then-s-n : goal.returns-then-s-n
returns-then-s-n c = no_arrivals _ _ _ (omega arith) (omega arith) c.if-s-n.true

pub returns : goal.returns
returns c = pages_decide _ _ _ (omega arith) (omega arith) (omega arith) _ c.all_below.ensures
