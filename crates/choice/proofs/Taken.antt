-- The blocks that a collection takes, by any test of a page's validity: their numbers give them back, and are blocks of the device.
-- Assumes nothing.
use mathlib.Core.Path.{◌≡◌, refl, sym, ap, ◌∙◌}
use mathlib.Core.List.{List, [], ◌∷◌, map}
use mathlib.Core.Bool.{Bool, true}
use Prim.Native.Nat.{ℕ, suc, ◌≤◌, ◌<◌}
use native.Mathlib.Omega.{arith}
use lib.Dec.{ltb}
use lib.ListN.{length}
use borrow.Author.Tests.{lt-ltb}
use Rattle.model.specs.Lists.{all, elem}
use Rattle.model.specs.Device.{Device}
use Rattle.model.proofs.Lists.{all_each}
use Rattle.model.proofs.Counting.{pigeonhole}
use Rattle.calls.specs.Choice.{Used, blocks_of, used_by, victims_by}
use Rattle.calls.specs.Ranked.{Each, both}
use Rattle.calls.proofs.Choosing.{Own, victims-own, victim_used, victims-distinct}

-- There are as many block numbers as blocks.
pub blocks-length : (l : List Used) → length (blocks_of l) ≡ length l
unfolding blocks_of
blocks-length [] = refl
blocks-length (u ∷ l) = ap suc (blocks-length l)

module _ (valid : ℕ → Bool) (d : Device) where
  own-again : (us : List Used) → Each (Own valid d) us → map (used_by valid d) (blocks_of us) ≡ us
  unfolding used_by blocks_of
  own-again [] e = refl
  own-again (u ∷ us) (both q e) =
      ap (λ (ps : List ℕ). record { block = u.block; pages = ps } ∷ map (used_by valid d) (blocks_of us)) (sym q)
      ∙ ap (λ (l : List Used). u ∷ l) (own-again us e)

  module _ (counts : List ℕ) where
    -- The blocks' numbers give the blocks back.
    pub taken-again : map (used_by valid d) (blocks_of (victims_by valid d counts)) ≡ victims_by valid d counts
    taken-again = own-again (victims_by valid d counts) (victims-own valid d counts)

    module _ (m : ℕ) (counted : length counts ≡ m) where
      block_in : (k : ℕ) → elem k (blocks_of (victims_by valid d counts)) ≡ true → k < m
      block_in k e = omega (arith, (victim_used valid d counts k e).0, counted)

      -- A block that is taken is one of the m ..
      pub blocks_in : all (λ k. ltb k m) (blocks_of (victims_by valid d counts)) ≡ true
      blocks_in = all_each (λ k. ltb k m) (blocks_of (victims_by valid d counts)) (λ k e. lt-ltb k m (block_in k e))

      -- .. and no more are taken than there are.
      pub blocks-few : length (blocks_of (victims_by valid d counts)) ≤ m
      blocks-few = pigeonhole m (blocks_of (victims_by valid d counts)) (victims-distinct valid d counts) block_in
