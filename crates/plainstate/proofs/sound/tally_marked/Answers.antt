-- A block's marked pages are counted, and its entry stored.
use Rattle.std.proofs.Common.{◌≡◌, sym, ap, ◌∙◌, ℕ, ◌≤◌, [], ◌∷◌, length, arith}
use Rattle.model.specs.Lists.{store}
use Rattle.model.specs.Marks.{is_marked}
use Rattle.front.specs.Read.{numbers_of}
use Rattle.sorting.proofs.SortStores.{stored_all}
use Rattle.choice.specs.Tally.{free_entry}
use Rattle.plainstate.specs.Reading.{read_table}
use Rattle.plainstate.specs.Tally.{entry_for}
use Rattle.plainstate.proofs.Shaping.{front_in, length-counts}
use Rattle.plainstate.proofs.Tallying.{entry_told, stored_next, entries_next, counted_next, entries-end, counted-end, entries_all, counted_all, counting, block_marked, block_most}
use Rattle.plainstate.proofs.sound.tally_marked.Goals as goal
use Rattle.plainstate.proofs.sound.tally_marked.Goals.{then-c-eq0, else-c-eq0}

pub loop-k-init : goal.loop-k-init
loop-k-init c = record {
  few = omega arith;
  count = omega (arith, counted_all (is_marked c.args.bits.now) (numbers_of c.args.d) (read_table c.args.state.now).counts);
  stored = ap (store c.args.tally.now 0) (sym (entries_all _ _ _));
}

pub count-c-requires : goal.count-c-requires
count-c-requires c = ((front_in _ _ c.requires.0).0, c.loop-k-test.true)

pub overflow_mul-a : goal.overflow_mul-a
overflow_mul-a c = let b = counting _ _ c.requires.0 _ _ c.loop-k-test.true c.count-c.ensures.0 c.requires.2 in omega arith

pub overflow_add-a : goal.overflow_add-a
overflow_add-a c = let b = counting _ _ c.requires.0 _ _ c.loop-k-test.true c.count-c.ensures.0 c.requires.2 in omega arith

pub ones-r-requires : goal.ones-r-requires
ones-r-requires c =
    let b = counting _ _ c.requires.0 _ _ c.loop-k-test.true c.count-c.ensures.0 c.requires.2 in
    (omega arith, omega arith, omega arith)

pub overflow_cast-e : goal.overflow_cast-e
overflow_cast-e c =
    let b = counting _ _ c.requires.0 _ _ c.loop-k-test.true c.count-c.ensures.0 c.requires.2 in
    omega (arith, block_most _ _ _ _ _ _ b c.ones-r.ensures)

pub overflow_add-n : goal.overflow_add-n
overflow_add-n c =
    let b = counting _ _ c.requires.0 _ _ c.loop-k-test.true c.count-c.ensures.0 c.requires.2 in
    omega (arith, block_most _ _ _ _ _ _ b c.ones-r.ensures)

pub loop-k-preserved : goal.loop-k-preserved
unfolding free_entry
loop-k-preserved c =
    let b = counting _ _ c.requires.0 _ _ c.loop-k-test.true c.count-c.ensures.0 c.requires.2 in
    let marked = block_marked _ _ _ _ _ _ b c.ones-r.ensures in
    let entry : c.if-c-eq0.e ≡ entry_for c.count-c.result c.ones-r.result =
    entry_told _ _ _
    (λ z. elim c.if-c-eq0.branch [ then-c-eq0 w ↦ w.e-is | else-c-eq0 w ↦ absurd (omega arith) ])
    (λ n. elim c.if-c-eq0.branch [ then-c-eq0 w ↦ absurd (n w.if-c-eq0.true) | else-c-eq0 w ↦ w.e-is ]) in record {
      few = omega (arith, block_most _ _ _ _ _ _ b c.ones-r.ensures);
      count = omega (arith, counted_next _ _ _ _ _ b.there marked);
      stored = stored_next _ _ _ _ _ _ _ c.loop-k.invariant.stored (entries_next _ _ _ _ _ b.there marked)
          (c.put_entry.ensures ∙ ap (λ (e : ℕ). store c.loop-k.tally c.loop-k.k (e ∷ [])) (entry ∙ ap (λ (n : ℕ). entry_for n c.ones-r.result) b.read));
    }

pub returns-clause-count : goal.returns-clause-count
returns-clause-count c =
    let end : length (read_table c.args.state.now).counts ≤ c.loop-k.k = omega (arith, length-counts _ _ c.requires.0) in
    omega (arith, counted-end (is_marked c.args.bits.now) (numbers_of c.args.d) _ _ end)

pub returns-clause-tally : goal.returns-clause-tally
returns-clause-tally c =
    let end : length (read_table c.args.state.now).counts ≤ c.loop-k.k = omega (arith, length-counts _ _ c.requires.0) in
    stored_all _ _ _ _ c.loop-k.invariant.stored (entries-end _ _ _ _ end)
