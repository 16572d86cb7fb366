-- The condition of the function on a block's spare entries, test by test, and what it gives. Assumes nothing.
use mathlib.Core.Path.{◌≡◌, refl}
use mathlib.Core.List.{List}
use mathlib.Core.Bool.{Bool, true, false}
use Prim.Native.Nat.{ℕ, ◌≤◌, ◌<◌}
use lib.Dec.{ltb, leb, eqb}
use borrow.Author.Tests.{eqb-true, leb-true, ltb-true, eq-eqb, ne_eqb, lt-ltb, le-ltb, le-leb, lt-leb}
use Rattle.model.specs.Device.{Device, within_limits, entries_per_block, spare_length}
use Rattle.model.specs.Spare.{pass_block}
use Rattle.model.proofs.Bools.{and_l, and_r}
use Rattle.probe.specs.Groups.{outside}
use Rattle.probe.specs.Passes.{programmable, Programs}

module _ (d : Device) (l p k stop : ℕ) where
  -- The tests, one after the other.
  pub no_device : within_limits d ≡ false → false ≡ programmable d l p k stop
  unfolding programmable
  no_device h = rw h

  module _ (limits : within_limits d ≡ true) where
    pub no_area : (l ≡ spare_length d → ⊥) → false ≡ programmable d l p k stop
    unfolding programmable
    no_area h = rw (limits, ne_eqb l (spare_length d) h)

    module _ (area : l ≡ spare_length d) where
      pub no_block : d.M ≤ k → false ≡ programmable d l p k stop
      unfolding programmable
      no_block h = rw (limits, eq-eqb l (spare_length d) area, le-ltb k d.M h)

      module _ (block : k < d.M) where
        pub no_pages : d.B < p → false ≡ programmable d l p k stop
        unfolding programmable
        no_pages h = rw (limits, eq-eqb l (spare_length d) area, lt-ltb k d.M block, lt-leb p d.B h)

        pub stop_decides : p ≤ d.B → (t : Bool) → t ≡ leb stop (entries_per_block d) → t ≡ programmable d l p k stop
        unfolding programmable
        stop_decides h t e = rw (limits, eq-eqb l (spare_length d) area, lt-ltb k d.M block, le-leb p d.B h) e

  -- What the condition gives.
  pub programmable-parts : programmable d l p k stop ≡ true
      → (l ≡ spare_length d) × (k < d.M) × (p ≤ d.B) × (stop ≤ entries_per_block d)
  unfolding programmable
  programmable-parts h =
      let a = and_r (within_limits d) _ h in
      let b = and_r (eqb l (spare_length d)) _ a in
      let c = and_r (ltb k d.M) _ b in
      (eqb-true _ _ (and_l _ _ a), ltb-true _ _ (and_l _ _ b), leb-true _ _ (and_l _ _ c), leb-true _ _ (and_r (leb p d.B) _ c))

-- A block programmed, or left as it is.
module _ (t : Bool) (d : Device) (written : List ℕ) (k stop : ℕ) (spare : List ℕ) where
  pub not_programmed : t ≡ false → Programs t d written k stop spare spare outside
  unfolding Programs
  not_programmed e = rw e (refl, refl)

  pub is_programmed : t ≡ true → (spare' : List ℕ) → spare' ≡ pass_block d written k stop spare → Programs t d written k stop spare spare' 0
  unfolding Programs
  is_programmed e spare' h = rw e (refl, h)
