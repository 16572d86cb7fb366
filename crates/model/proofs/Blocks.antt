-- The free and the used blocks: which they are, how many, and how the number of free ones changes. Assumes nothing.
use mathlib.Core.Path.{◌≡◌, refl, ap}
use mathlib.Core.List.{List, [], ◌∷◌}
use mathlib.Core.Logic.{◌≢◌, ◌⊎◌, inl, inr}
use mathlib.Core.Bool.{Bool, true, false, not}
use Prim.Native.Nat.{ℕ, zero, suc, ◌+◌, ◌-◌, ◌≤◌, ◌<◌}
use native.Mathlib.Omega.{arith}
use native.Mathlib.Nat.{le_refl}
use lib.Dec.{eqb}
use lib.ListN.{length, get_or, set}
use borrow.Author.Tests.{eqb-true, eqb-false, ne_eqb, not-true}
use Rattle.model.specs.Lists.{elem}
use Rattle.model.specs.State.{free_blocks, used_blocks, lowest_in}
use Rattle.model.proofs.Lists.{elem_cons, no_elem, elem-get_or, Asc, end, next, asc_lower}

-- the blocks whose count passes a test, the first count being block k's
blocks_with : (ℕ → Bool) → ℕ → List ℕ → List ℕ
blocks_with t k [] = []
blocks_with t k (c ∷ cs) = elim (t c) [ true ↦ k ∷ blocks_with t (suc k) cs | false ↦ blocks_with t (suc k) cs ]

is_free : ℕ → Bool
is_free c = eqb c 0

is_used : ℕ → Bool
is_used c = not (eqb c 0)

free_are : (k : ℕ) (cs : List ℕ) → free_blocks k cs ≡ blocks_with is_free k cs
unfolding free_blocks blocks_with is_free
free_are k [] = refl
free_are k (c ∷ cs) = go (eqb c 0) refl (free_are (suc k) cs)
  where
    go : (t : Bool) → eqb c 0 ≡ t → free_blocks (suc k) cs ≡ blocks_with is_free (suc k) cs → free_blocks k (c ∷ cs) ≡ blocks_with is_free k (c ∷ cs)
    go true e ih = rw (e, free_blocks, blocks_with) (ap (λ (l : List ℕ). k ∷ l) ih)
    go false e ih = rw (e, free_blocks, blocks_with) ih

used_are : (k : ℕ) (cs : List ℕ) → used_blocks k cs ≡ blocks_with is_used k cs
unfolding used_blocks blocks_with is_used
used_are k [] = refl
used_are k (c ∷ cs) = go (eqb c 0) refl (used_are (suc k) cs)
  where
    go : (t : Bool) → eqb c 0 ≡ t → used_blocks (suc k) cs ≡ blocks_with is_used (suc k) cs → used_blocks k (c ∷ cs) ≡ blocks_with is_used k (c ∷ cs)
    go true e ih = rw (e, used_blocks, blocks_with) ih
    go false e ih = rw (e, used_blocks, blocks_with) (ap (λ (l : List ℕ). k ∷ l) ih)

-- block o, o - k places behind block k, has a count that passes the test
record Passes (t : ℕ → Bool) (k : ℕ) (cs : List ℕ) (o : ℕ) : Type 0 where
  from : k ≤ o
  below : o < k + length cs
  passes : t (get_or cs (o - k) 0) ≡ true

with_only : (t : ℕ → Bool) (k : ℕ) (cs : List ℕ) (o : ℕ) → elem o (blocks_with t k cs) ≡ true → Passes t k cs o
unfolding blocks_with
with_only t k [] o h = no_elem o h
with_only t k (c ∷ cs) o h = go (t c) refl (λ q. with_only t (suc k) cs o q)
  where
    later : Passes t (suc k) cs o → Passes t k (c ∷ cs) o
    later p =
        let f : suc k ≤ o = p.from in
        let e : o - k ≡ suc (o - suc k) = omega arith in
        record { from = omega arith; below = omega (arith, p.below); passes = rw e p.passes }

    first : t c ≡ true → (elem o (blocks_with t (suc k) cs) ≡ true → Passes t (suc k) cs o) → (o ≡ k) ⊎ (elem o (blocks_with t (suc k) cs) ≡ true) → Passes t k (c ∷ cs) o
    first e ih (inl q) = let z : o - k ≡ 0 = omega arith in record { from = omega arith; below = omega arith; passes = rw z e }
    first e ih (inr q) = later (ih q)

    go : (b : Bool) → t c ≡ b → (elem o (blocks_with t (suc k) cs) ≡ true → Passes t (suc k) cs o) → Passes t k (c ∷ cs) o
    go true e ih = first e ih (elem_cons o k (blocks_with t (suc k) cs) (rw (e, blocks_with) at h))
    go false e ih = later (ih (rw (e, blocks_with) at h))

with_asc : (t : ℕ → Bool) (k : ℕ) (cs : List ℕ) → Asc k (blocks_with t k cs)
unfolding blocks_with
with_asc t k [] = end
with_asc t k (c ∷ cs) = go (t c) refl (with_asc t (suc k) cs)
  where
    go : (b : Bool) → t c ≡ b → Asc (suc k) (blocks_with t (suc k) cs) → Asc k (blocks_with t k (c ∷ cs))
    go true e a = rw (e, blocks_with) (next (le_refl k) a)
    go false e a = rw (e, blocks_with) (asc_lower (omega arith) a)

-- A free block is a block, and its count is 0.
pub free_only : (cs : List ℕ) (k : ℕ) → elem k (free_blocks 0 cs) ≡ true → (k < length cs) × (get_or cs k 0 ≡ 0)
unfolding is_free
free_only cs k h =
    let p : Passes is_free 0 cs k = with_only is_free 0 cs k (rw (free_are 0 cs) at h) in
    let z : k - 0 ≡ k = omega arith in
    (omega (arith, p.below), eqb-true (get_or cs k 0) 0 (rw z at p.passes))

-- A used block is a block, and its count isn't 0.
pub used_only : (cs : List ℕ) (k : ℕ) → elem k (used_blocks 0 cs) ≡ true → (k < length cs) × (get_or cs k 0 ≢ 0)
unfolding is_used
used_only cs k h =
    let p : Passes is_used 0 cs k = with_only is_used 0 cs k (rw (used_are 0 cs) at h) in
    let z : k - 0 ≡ k = omega arith in
    (omega (arith, p.below), eqb-false (get_or cs k 0) 0 (not-true (eqb (get_or cs k 0) 0) (rw z at p.passes)))

-- The used blocks ascend.
pub used_asc : (cs : List ℕ) → Asc 0 (used_blocks 0 cs)
used_asc cs = rw (used_are 0 cs) (with_asc is_used 0 cs)

-- Every block is free or used: their numbers sum to the number of blocks.
pub free_and_used : (k : ℕ) (cs : List ℕ) → length (free_blocks k cs) + length (used_blocks k cs) ≡ length cs
unfolding free_blocks used_blocks
free_and_used k [] = refl
free_and_used k (c ∷ cs) = go (eqb c 0) refl (free_and_used (suc k) cs)
  where
    go : (t : Bool) → eqb c 0 ≡ t → length (free_blocks (suc k) cs) + length (used_blocks (suc k) cs) ≡ length cs → length (free_blocks k (c ∷ cs)) + length (used_blocks k (c ∷ cs)) ≡ suc (length cs)
    go true e ih = rw (e, free_blocks, used_blocks) (omega arith)
    go false e ih = rw (e, free_blocks, used_blocks) (omega arith)

-- Where a block is free, the lowest free one is a block whose count is 0.
pub lowest_free_lem : (cs : List ℕ) → 1 ≤ length (free_blocks 0 cs) → (lowest_in cs < length cs) × (get_or cs (lowest_in cs) 0 ≡ 0)
unfolding lowest_in
lowest_free_lem cs h = free_only cs (lowest_in cs) (elem-get_or (free_blocks 0 cs) 0 h)

-- 1 for the count of a free block, 0 for that of a used one
free_count : ℕ → ℕ
free_count zero = 1
free_count (suc n) = 0

free_step : (k c : ℕ) (cs : List ℕ) → length (free_blocks k (c ∷ cs)) ≡ free_count c + length (free_blocks (suc k) cs)
unfolding free_blocks free_count
free_step k zero cs = omega arith
free_step k (suc c) cs =
    let e : eqb (suc c) 0 ≡ false = ne_eqb (suc c) 0 (λ h. absurd (omega arith)) in
    rw (e, free_blocks) (omega arith)

free-set : (k : ℕ) (cs : List ℕ) (i n : ℕ) → i < length cs → length (free_blocks k (set cs i n)) + free_count (get_or cs i 0) ≡ length (free_blocks k cs) + free_count n
free-set k [] i n h = absurd (omega arith)
free-set k (c ∷ cs) zero n h = omega (arith, free_step k c cs, free_step k n cs)
free-set k (c ∷ cs) (suc i) n h = omega (arith, free_step k c cs, free_step k c (set cs i n), free-set (suc k) cs i n (omega arith))

used-count : (c : ℕ) → c ≢ 0 → free_count c ≡ 0
unfolding free_count
used-count zero h = absurd (h refl)
used-count (suc c) h = refl

-- A free block that gets a count leaves one free block less.
pub free-fill : (cs : List ℕ) (k n : ℕ) → k < length cs → get_or cs k 0 ≡ 0 → n ≢ 0 → suc (length (free_blocks 0 (set cs k n))) ≡ length (free_blocks 0 cs)
unfolding free_count
free-fill cs k n h e m =
    let o : free_count (get_or cs k 0) ≡ 1 = rw e in
    omega (arith, free-set 0 cs k n h, used-count n m)

-- A used block whose count becomes 0 makes one free block more.
pub free-clear : (cs : List ℕ) (k : ℕ) → k < length cs → get_or cs k 0 ≢ 0 → length (free_blocks 0 (set cs k 0)) ≡ suc (length (free_blocks 0 cs))
unfolding free_count
free-clear cs k h m = omega (arith, free-set 0 cs k 0 h, used-count (get_or cs k 0) m)
