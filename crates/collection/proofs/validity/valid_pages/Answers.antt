-- A turn counts its page as its test says; behind the block's last page nothing is left.
use Rattle.std.proofs.Common.{◌+◌, ◌*◌, length, ap, arith}
use Rattle.state.specs.Reading.{read_state}
use Rattle.collection.proofs.Judging.{block-fits, in_device, pages_all, pages-few, upto-end, upto-count}
use Rattle.collection.proofs.validity.valid_pages.Goals as goal

pub overflow_mul-a : goal.overflow_mul-a
overflow_mul-a c = omega (arith, block-fits _ _ _ c.requires.0 _ c.requires.1)

pub overflow_add-p-end : goal.overflow_add-p-end
overflow_add-p-end c = omega (arith, block-fits _ _ _ c.requires.0 _ c.requires.1)

pub loop-p-init : goal.loop-p-init
loop-p-init c = omega (arith, ap length (pages_all _ _ _ c.requires.0 c.args.k))

pub valid-requires : goal.valid-requires
valid-requires c = (c.requires.0, in_device _ _ _ c.requires.0 _ c.requires.1 _ (omega arith) (omega arith))

pub overflow_add-n : goal.overflow_add-n
overflow_add-n c = omega (arith, upto-count _ _ _ _ c.loop-p-test.true _ c.valid.ensures, pages-few _ _ _ c.requires.0 c.args.k)

pub loop-p-preserved : goal.loop-p-preserved
loop-p-preserved c = omega (arith, upto-count _ _ _ _ c.loop-p-test.true _ c.valid.ensures)

pub returns : goal.returns
returns c =
    omega (arith, ap length (upto-end (read_state c.args.state.now) c.args.spare.now (c.args.k * c.args.d.b + c.args.d.b) c.loop-p.p (omega arith)))
