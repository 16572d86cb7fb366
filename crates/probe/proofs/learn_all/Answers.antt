-- The runs before the place are stored, and what is left makes the whole.
use borrow.Author.Rules.{rules}
use Prim.Native.Nat.{ℕ, ◌-◌, ◌<◌}
use mathlib.Core.Path.{◌≡◌, sym, subst}
use native.Mathlib.Omega.{arith}
use mathlib.Core.List.{List}
use mathlib.Core.Bool.{true}
use lib.ListN.{length}
use Rattle.model.specs.Lists.{ascending}
use Rattle.model.specs.Learning.{learn}
use Rattle.record.specs.declared.Record.{Record}
use Rattle.record.specs.Coding.{InEight}
use Rattle.model.specs.Demand2.{bounds_of}
use Rattle.learn.specs.Runs.{run_at}
use Rattle.learn.proofs.RunHeld.{Held, held}
use Rattle.learn.proofs.Storing.{Stored, stored-start, stored_next, stored_all}
use Rattle.probe.proofs.Bytes.{Bytes, bytes-start, bytes_next, bytes_all}
use Rattle.probe.proofs.learn_all.Goals as goal

-- the run at the place
run_held : (w : List ℕ) (first g i : ℕ) → ascending w ≡ true → i < length w → Held (length w - i) (run_at (bounds_of g first w) w i)
run_held w first g i a h = held (bounds_of g first w) w i h a (omega (arith, h))

pub loop-i-init : goal.loop-i-init
loop-i-init c = search (stored-start, bytes-start, rules)

pub encode-requires : goal.encode-requires
encode-requires c = (omega (arith, c.loop-i.invariant.1.kept, c.loop-i.invariant.0.few, c.loop-i-test.true, c.requires.written_in_bounds.0), subst (λ (r : Record). InEight r) (sym c.run_at-r.ensures.0) (run_held c.args.written.now c.args.first c.args.g c.loop-i.i c.requires.written_value.0 c.loop-i-test.true).bytes)

pub overflow_cast-taken : goal.overflow_cast-taken
overflow_cast-taken c = omega (arith, c.run_at-r.ensures.1, (run_held c.args.written.now c.args.first c.args.g c.loop-i.i c.requires.written_value.0 c.loop-i-test.true).inside, c.requires.written_value.1)

pub overflow_add-i : goal.overflow_add-i
overflow_add-i c = omega (arith, c.run_at-r.ensures.1, (run_held c.args.written.now c.args.first c.args.g c.loop-i.i c.requires.written_value.0 c.loop-i-test.true).inside, c.requires.written_value.1)

pub loop-i-smaller : goal.loop-i-smaller
loop-i-smaller c = omega (arith, c.run_at-r.ensures.1, (run_held c.args.written.now c.args.first c.args.g c.loop-i.i c.requires.written_value.0 c.loop-i-test.true).inside, (run_held c.args.written.now c.args.first c.args.g c.loop-i.i c.requires.written_value.0 c.loop-i-test.true).filled)

pub loop-i-preserved : goal.loop-i-preserved
loop-i-preserved c = let e = c.run_at-r.ensures in
    let h = (run_held c.args.written.now c.args.first c.args.g c.loop-i.i c.requires.written_value.0 c.loop-i-test.true) in
    let so = c.loop-i.invariant in
    let less = c.loop-i-test.true in
    (stored_next _ _ _ _ _ _ so.0 less h.filled _ e.1 (omega (arith, e.1, h.inside)), bytes_next _ _ _ _ _ _ so.0 _ _ so.1 less h.filled _ e.1 _ e.0 _ c.encode.ensures)

pub returns-clause-value : goal.returns-clause-value
unfolding learn
returns-clause-value c = (stored_all _ _ _ _ _ _ c.loop-i.invariant.0 c.loop-i-test.false).0

pub returns-clause-out_after : goal.returns-clause-out_after
unfolding learn
returns-clause-out_after c =
    let so = c.loop-i.invariant in
    bytes_all _ _ _ _ _ _ so.0 _ _ so.1 c.loop-i-test.false

pub returns-clause-taken_after : goal.returns-clause-taken_after
unfolding learn
returns-clause-taken_after c = (stored_all _ _ _ _ _ _ c.loop-i.invariant.0 c.loop-i-test.false).1
