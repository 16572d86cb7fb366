-- A sorted batch, as a block takes it. Assumes nothing.
use mathlib.Core.Path.{◌≡◌, sym, ap, ◌∙◌}
use mathlib.Core.List.{List}
use mathlib.Core.Bool.{true}
use Prim.Native.Nat.{ℕ, ◌≤◌}
use native.Mathlib.Omega.{arith}
use lib.Dec.{ltb}
use lib.ListN.{length}
use Rattle.model.specs.Lists.{all, ascending, store}
use Rattle.model.specs.Device.{Device}
use Rattle.model.specs.Spare.{program_block}
use Rattle.model.specs.Learning.{Write, sorted, logicals, sources}
use Rattle.model.specs.State.{State}
use Rattle.model.proofs.Lists.{of_asc}
use Rattle.model.proofs.Limits.{limits}
use Rattle.model.proofs.Sorting.{sorted_asc, logicals-length, sorted-length}
use Rattle.calls.specs.Flush.{write_state}
use Rattle.sorting.proofs.Batches.{sorted-below}
use Rattle.flush.specs.Written.{Admitted, Written}

-- The sorted batch ascends.
sorted-ascends : (batch : List ℕ) → ascending (logicals (sorted batch)) ≡ true
sorted-ascends batch = of_asc (logicals (sorted batch)) (sorted_asc batch)

-- It fits an array for a block's pages.
pub sorted-few : (d : Device) (s : State) (spare batch plan : List ℕ) → Admitted d s spare batch plan → length (sorted batch) ≤ 256
sorted-few d s spare batch plan p = omega (arith, sorted-length batch, p.short, (limits d p.shape.limits).most_B)

-- Pages that are the sorted batch's.
module _ (batch ps : List ℕ) (named : ps ≡ logicals (sorted batch)) where
  module _ (d : Device) (s : State) (spare plan : List ℕ) (p : Admitted d s spare batch plan) where
    -- They are what a block takes: they ascend, lie below N and fit.
    pub sorted-fits : (ascending ps ≡ true) × (all (λ x. ltb x d.N) ps ≡ true) × (length ps ≤ d.B)
    sorted-fits = (
      ap ascending named ∙ sorted-ascends batch,
      ap (λ (l : List ℕ). all (λ x. ltb x d.N) l) named ∙ sorted-below batch d.N p.inside,
      omega (arith, ap length named, logicals-length (sorted batch), sorted-length batch, p.short),
    )

    -- A block that takes them takes the sorted batch.
    pub sorted-taken : (k n : ℕ) (s' : State) (spare' plan' : List ℕ) → ((ws : List Write) → logicals ws ≡ ps → s' ≡ write_state ws k s)
        → spare' ≡ program_block d ps k spare → n ≡ length (sorted batch) → plan' ≡ store plan 0 (sources (sorted batch))
        → Written d batch k n s s' spare spare' plan plan'
    sorted-taken k n s' spare' plan' a b c e = record {
      count = c;
      state = a (sorted batch) (sym named);
      area = b ∙ ap (λ (l : List ℕ). program_block d l k spare) named;
      listed = e;
    }
