-- The used blocks are ordered by valid pages, fewest first, ties by number: each is put, from the highest number down, before the first
-- that has no fewer valid pages, and all that are there have higher numbers. Assumes nothing.
use mathlib.Core.Path.{◌≡◌, refl}
use mathlib.Core.List.{List, [], ◌∷◌, map}
use mathlib.Core.Bool.{Bool, true, false}
use Prim.Native.Nat.{ℕ, suc, ◌≤◌, ◌<◌}
use native.Mathlib.Omega.{arith}
use lib.Dec.{leb, eqb}
use lib.ListN.{length}
use borrow.Author.Tests.{leb-true, leb-false, eqb-true, eqb-false}
use Rattle.model.specs.Device.{Device}
use Rattle.model.specs.State.{used_blocks}
use Rattle.calls.specs.Choice.{Used, used_by, rank, ranked}
use Rattle.calls.specs.Ranked.{Before, fewer, tied, Each, none, both, InOrder, RanksInOrder}
use Rattle.calls.proofs.Ranking.{rank_each, ranked_each}

-- these blocks have numbers above k
abbrev Above : ℕ → List Used → Type 0
Above k l = Each (λ u. k < u.block) l

-- a block with no more valid pages and a lower number comes first
earlier : (u v : Used) → length u.pages ≤ length v.pages → u.block < v.block → Before u v
earlier u v h b = go (eqb (length u.pages) (length v.pages)) refl
  where
    go : (t : Bool) → eqb (length u.pages) (length v.pages) ≡ t → Before u v
    go true q = tied (eqb-true (length u.pages) (length v.pages) q) b
    go false q = fewer (omega (arith, h, eqb-false (length u.pages) (length v.pages) q))

-- one that comes first has no more valid pages
no_more : (u v : Used) → Before u v → length u.pages ≤ length v.pages
no_more u v (fewer h) = omega (arith, h)
no_more u v (tied h b) = omega (arith, h)

-- what has no more valid pages than v comes before all that v does
earlier_all : (u v : Used) (l : List Used) → length u.pages ≤ length v.pages → Above u.block l → Each (Before v) l → Each (Before u) l
earlier_all u v [] h none none = none
earlier_all u v (w ∷ l) h (both a later) (both b behind) = both (earlier u w (omega (arith, h, no_more v w b)) a) (earlier_all u v l h later behind)

-- a block below those that are in order gets its place among them
rank-in_order : (u : Used) (l : List Used) → Above u.block l → InOrder l → InOrder (rank u l)
unfolding rank
rank-in_order u [] a o = (none, tt)
rank-in_order u (v ∷ l) (both a later) o = go (leb (length u.pages) (length v.pages)) refl (rank-in_order u l later o.1)
  where
    go : (t : Bool) → leb (length u.pages) (length v.pages) ≡ t → InOrder (rank u l) → InOrder (rank u (v ∷ l))
    go true q ih = let h = leb-true (length u.pages) (length v.pages) q in rw (q, rank) (both (earlier u v h a) (earlier_all u v l h later o.0), o)
    go false q ih = rw (q, rank) (rank_each (Before v) u l (fewer (omega (arith, leb-false (length u.pages) (length v.pages) q))) o.0, ih)

module _ (valid : ℕ → Bool) (d : Device) where
  -- the used blocks of these counts, the first of which is block k's
  abbrev used : ℕ → List ℕ → List Used
  used k counts = map (used_by valid d) (used_blocks k counts)

  used-above : (k j : ℕ) (counts : List ℕ) → k < j → Above k (used j counts)
  unfolding used_blocks used_by
  used-above k j [] b = none
  used-above k j (c ∷ cs) b = go (eqb c 0) refl (used-above k (suc j) cs (omega (arith, b)))
    where
      go : (t : Bool) → eqb c 0 ≡ t → Above k (used (suc j) cs) → Above k (used j (c ∷ cs))
      go true q ih = rw (q, used_blocks) ih
      go false q ih = rw (q, used_blocks) (both b ih)

  from : (k : ℕ) (counts : List ℕ) → InOrder (ranked (used k counts))
  unfolding used_blocks ranked used_by
  from k [] = tt
  from k (c ∷ cs) = go (eqb c 0) refl (from (suc k) cs)
    where
      go : (t : Bool) → eqb c 0 ≡ t → InOrder (ranked (used (suc k) cs)) → InOrder (ranked (used k (c ∷ cs)))
      go true q ih = rw (q, used_blocks) ih
      go false q ih = rw (q, used_blocks) (rank-in_order (used_by valid d k) (ranked (used (suc k) cs)) (ranked_each (λ u. k < u.block) (used (suc k) cs) (used-above k (suc k) cs (omega arith))) ih)

-- The order.
pub ranks_in_order : RanksInOrder
ranks_in_order valid d counts = from valid d 0 counts
