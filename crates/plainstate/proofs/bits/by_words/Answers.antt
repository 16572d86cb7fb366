-- With the bits of a word they are counted 32 pages further; then the rest.
use Rattle.std.proofs.Common.{arith}
use Rattle.plainstate.proofs.Ones.{word_more, counted-rest, counted_most, count_most}
use Rattle.plainstate.proofs.bits.by_words.Goals as goal

pub overflow_add-n : goal.overflow_add-n
overflow_add-n c =
    omega (arith, counted_most _ _ _ _ _ (word_more c.args.bits.now (λ i. omega (arith, c.type_inv.bits i)) _ _ _ _ _ c.requires.3 c.loop-i-test.true c.get_u32-word.ensures c.loop-i.invariant))

pub loop-i-preserved : goal.loop-i-preserved
loop-i-preserved c =
    word_more c.args.bits.now (λ i. omega (arith, c.type_inv.bits i)) _ _ _ _ _ c.requires.3 c.loop-i-test.true c.get_u32-word.ensures c.loop-i.invariant

pub overflow_add-result : goal.overflow_add-result
overflow_add-result c = omega (arith, count_most _ _ _ _ (counted-rest _ _ _ _ _ _ _ (omega arith) c.one_by_one.ensures c.loop-i.invariant))
