-- A sorted batch, as a block takes it. Assumes nothing.
use mathlib.Core.Path.{◌≡◌, ap, ◌∙◌}
use mathlib.Core.List.{List}
use mathlib.Core.Bool.{true}
use Prim.Native.Nat.{ℕ, ◌≤◌}
use native.Mathlib.Omega.{arith}
use lib.Dec.{ltb}
use lib.ListN.{length}
use Rattle.model.specs.Lists.{all, store}
use Rattle.model.specs.Device.{Device}
use Rattle.model.specs.Learning.{sorted, logicals, sources}
use Rattle.model.proofs.Sorting.{logicals-length, sorted-length}
use Rattle.calls.specs.Demand3.{Fits}
use Rattle.plain.specs.Table.{Table}
use Rattle.sorting.proofs.Batches.{sorted-below}
use Rattle.plaincalls.specs.Written.{block_taken, Written}

-- Pages that are the sorted batch's.
module _ (batch ps : List ℕ) (named : ps ≡ logicals (sorted batch)) where
  -- They are what a block takes: they lie below N and fit.
  pub sorted-fits : (d : Device) (plan : List ℕ) → Fits d batch plan → (all (λ x. ltb x d.N) ps ≡ true) × (length ps ≤ d.B)
  sorted-fits d plan f = (
    ap (λ (l : List ℕ). all (λ x. ltb x d.N) l) named ∙ sorted-below batch d.N f.logical,
    omega (arith, ap length named, logicals-length (sorted batch), sorted-length batch, f.short),
  )

  -- A block that takes them takes the sorted batch.
  pub sorted-taken : (k n : ℕ) (t t' : Table) (plan plan' : List ℕ) → t' ≡ block_taken k ps t → n ≡ length (sorted batch)
      → plan' ≡ store plan 0 (sources (sorted batch)) → Written batch k n t t' plan plan'
  sorted-taken k n t t' plan plan' a b c = record { count = b; table = a ∙ ap (λ (l : List ℕ). block_taken k l t) named; listed = c }
