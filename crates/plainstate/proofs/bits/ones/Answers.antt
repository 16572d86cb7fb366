-- Those before the first whole byte, and those from there on.
use Rattle.std.proofs.Common.{arith}
use Rattle.plainstate.proofs.Ones.{count_most, counts-joined}
use Rattle.plainstate.proofs.bits.ones.Goals as goal

pub overflow_add-result : goal.overflow_add-result
overflow_add-result c =
    omega (arith, count_most _ _ _ _ (counts-joined _ _ _ _ _ _ (omega arith) (omega arith) c.one_by_one-else-e-m.ensures c.by_words.ensures))

pub returns-else-e-m : goal.returns-else-e-m
returns-else-e-m c = counts-joined _ _ _ _ _ _ (omega arith) (omega arith) c.one_by_one-else-e-m.ensures c.by_words.ensures
