-- `learn` meets its contract: a turn asks `run_at` for the run at the place, stores its record and its number of pages, and goes on behind it.
use mathlib.Core.List.{List}
use Prim.Native.Nat.{ℕ, ◌+◌, ◌-◌, ◌≤◌, ◌<◌}
use native.Mathlib.Omega.{arith}
use lib.ListN.{length}
use Rattle.model.specs.Learning as model
use Rattle.model.specs.Demand2.{bounds_of}
use Rattle.learn.specs.declared.runs.Run.{Run}
use Rattle.learn.specs.Runs.{IsRun, Batch, run_at}
use Rattle.learn.proofs.RunHeld.{Held, held}
use Rattle.learn.proofs.Storing.{stored-start, listed_start, stored_next, listed_next, stored_all, listed_all}
use Rattle.learn.proofs.runs.learn.Goals as goal

run_held : (w : List ℕ) (first g i : ℕ) → Batch w first g → i < length w → Held (length w - i) (run_at (bounds_of g first w) w i)
run_held w first g i b h = held (bounds_of g first w) w i h b.ascends (omega (arith, h))

-- the run at a place takes a page at least, and none behind the batch
taken : (w : List ℕ) (first g i : ℕ) → Batch w first g → i < length w → (r : Run) → IsRun r (run_at (bounds_of g first w) w i)
    → (1 ≤ r.taken) × (i + r.taken ≤ length w) × (length w ≤ 256)
taken w first g i b h r is =
    let e = run_held w first g i b h in
    (omega (arith, is.1, e.filled), omega (arith, is.1, e.inside), b.size)

pub loop-i-init : goal.loop-i-init
loop-i-init c = record { numbers = stored-start _ _ _; listed = listed_start _ _ _ }

pub overflow_cast-taken : goal.overflow_cast-taken
overflow_cast-taken c = omega (arith, taken _ _ _ _ c.requires.0 c.loop-i-test.true _ c.run_at-r.ensures)

pub overflow_add-i : goal.overflow_add-i
overflow_add-i c = omega (arith, taken _ _ _ _ c.requires.0 c.loop-i-test.true _ c.run_at-r.ensures)

pub loop-i-smaller : goal.loop-i-smaller
loop-i-smaller c = omega (arith, taken _ _ _ _ c.requires.0 c.loop-i-test.true _ c.run_at-r.ensures)

pub loop-i-preserved : goal.loop-i-preserved
loop-i-preserved c =
    let v = c.loop-i.invariant in
    let is = c.run_at-r.ensures in
    let less = c.loop-i-test.true in
    let some = (run_held _ _ _ _ c.requires.0 less).filled in record {
      numbers = stored_next _ _ _ _ _ _ v.numbers less some _ is.1 (taken _ _ _ _ c.requires.0 less _ is).1;
      listed = listed_next _ _ _ _ _ _ v.numbers less some _ is.1 _ _ v.listed _ is.0;
    }

pub returns : goal.returns
unfolding model.learn
returns c =
    let v = c.loop-i.invariant in
    let e = stored_all _ _ _ _ _ _ v.numbers c.loop-i-test.false in
    (e.0, listed_all _ _ _ _ _ _ v.numbers c.loop-i-test.false _ _ v.listed, e.1)
