-- A valid page is the next that is stored, and another is passed; behind the block's last page nothing is left.
use Rattle.std.proofs.Common.{ℕ, ◌+◌, List, map, length, sym, ap, ◌∙◌, arith}
use Rattle.model.specs.Lists.{store}
use Rattle.model.specs.Spare.{middle}
use Rattle.front.specs.Read.{numbers_of}
use Rattle.sorting.proofs.SortStores.{stored_on, stored_all}
use Rattle.sorting.proofs.SortSpread.{counted, uncounted}
use Rattle.collection.proofs.Judging.{block-fits, in_device, pages_all, upto-end, upto_next, upto-passed}
use Rattle.collection.proofs.Gathering.{named_next, named_none, room-left}
use Rattle.collection.proofs.moving.gather_block.Goals as goal
use Rattle.collection.proofs.moving.gather_block.Goals.{then-valid, else-valid}

pub overflow_mul-a : goal.overflow_mul-a
overflow_mul-a c = omega (arith, block-fits _ _ _ c.requires.0 _ c.requires.1)

pub overflow_add-p-end : goal.overflow_add-p-end
overflow_add-p-end c = omega (arith, block-fits _ _ _ c.requires.0 _ c.requires.1)

pub loop-p-init : goal.loop-p-init
loop-p-init c =
    let first = sym (pages_all _ _ _ c.requires.0 c.args.k) in record {
      count = ap (λ (l : List ℕ). c.args.n + length l) first;
      logical = ap (λ (l : List ℕ). store c.args.pages.now c.args.n (map (middle (numbers_of c.args.d) c.args.spare.now) l)) first;
      source = ap (store c.args.sources.now c.args.n) first;
    }

pub valid-requires : goal.valid-requires
valid-requires c = (c.requires.0, in_device _ _ _ c.requires.0 _ c.requires.1 _ (omega arith) (omega arith))

pub middle-requires : goal.middle-requires
middle-requires c =
    let passed = c.requires.0 in
    (passed.fits, omega (arith, in_device _ _ _ passed _ c.requires.1 c.loop-p.p (omega arith) (omega arith)))

pub bounds-pages-n : goal.bounds-pages-n
bounds-pages-n c =
    omega (arith, room-left _ _ _ _ _ c.loop-p.invariant.count (upto_next _ _ _ _ c.loop-p-test.true _ c.valid.ensures c.if-valid.true), c.requires.2)

pub bounds-sources-n : goal.bounds-sources-n
bounds-sources-n c =
    omega (arith, room-left _ _ _ _ _ c.loop-p.invariant.count (upto_next _ _ _ _ c.loop-p-test.true _ c.valid.ensures c.if-valid.true), c.requires.3)

pub loop-p-preserved : goal.loop-p-preserved
loop-p-preserved c =
    let v = c.loop-p.invariant in
    elim c.if-valid.branch [
      | then-valid w ↦
          let next = upto_next _ _ _ _ c.loop-p-test.true _ c.valid.ensures w.if-valid.true in
          rw (w.pages-is, w.sources-is, w.n-is) (record {
            count = counted _ _ _ _ _ v.count next;
            logical = stored_on _ _ _ _ _ _ v.logical (named_next _ _ _ _ _ _ w.middle.ensures next);
            source = stored_on _ _ _ _ _ _ v.source next;
          })
      | else-valid w ↦
          let passed = upto-passed _ _ _ _ c.loop-p-test.true _ c.valid.ensures w.if-valid.false in
          rw (w.pages-is, w.sources-is, w.n-is) (record {
            count = v.count ∙ ap (λ (l : List ℕ). c.loop-p.n + length l) passed;
            logical = v.logical ∙ ap (λ (l : List ℕ). store c.loop-p.pages c.loop-p.n (map (middle (numbers_of c.args.d) c.args.spare.now) l)) passed;
            source = v.source ∙ ap (store c.loop-p.sources c.loop-p.n) passed;
          })
    ]

pub returns-clause-count : goal.returns-clause-count
returns-clause-count c = uncounted _ _ _ c.loop-p.invariant.count (upto-end _ _ _ _ (omega arith))

pub returns-clause-logical : goal.returns-clause-logical
returns-clause-logical c = stored_all _ _ _ _ c.loop-p.invariant.logical (named_none _ _ _ (upto-end _ _ _ _ (omega arith)))

pub returns-clause-source : goal.returns-clause-source
returns-clause-source c = stored_all _ _ _ _ c.loop-p.invariant.source (upto-end _ _ _ _ (omega arith))
