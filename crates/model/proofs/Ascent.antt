-- An ascending list rises from place to place. Assumes nothing.
use mathlib.Core.Path.{◌≡◌}
use mathlib.Core.Logic.{◌⊎◌, inl, inr}
use mathlib.Core.List.{List}
use mathlib.Core.Bool.{true}
use Prim.Native.Nat.{ℕ, zero, suc, ◌≤◌, ◌<◌}
use native.Mathlib.Omega.{arith}
use lib.ListN.{length, get_or}
use Rattle.model.specs.Lists.{ascending}
use Rattle.model.proofs.Lists.{Asc, end, next, asc_of, le_cases}

above : {z : ℕ} {w : List ℕ} → Asc z w → (j : ℕ) → j < length w → z ≤ get_or w j 0
above end j h = absurd (let q : ⊥ = omega arith in q)
above (next k a) zero h = k
above {z} (next {y = y} k a) (suc j) h = omega (arith, above a j (omega arith))

climbs : {z : ℕ} {w : List ℕ} → Asc z w → (i j : ℕ) → i < j → j < length w → get_or w i 0 < get_or w j 0
climbs end i j h k = absurd (let q : ⊥ = omega arith in q)
climbs (next q a) i zero h k = absurd (let q : ⊥ = omega arith in q)
climbs (next q a) zero (suc j) h k = above a j (omega arith)
climbs (next q a) (suc i) (suc j) h k = climbs a i j (omega arith) (omega arith)

pub rises : (w : List ℕ) (i j : ℕ) → ascending w ≡ true → i < j → j < length w → get_or w i 0 < get_or w j 0
rises w i j e h k = climbs (asc_of w e) i j h k

pub rises_to : (w : List ℕ) (i j : ℕ) → ascending w ≡ true → i ≤ j → j < length w → get_or w i 0 ≤ get_or w j 0
rises_to w i j e h k = go (le_cases i j h)
  where
    go : (j ≡ i) ⊎ (suc i ≤ j) → get_or w i 0 ≤ get_or w j 0
    go (inl q) = rw q (omega arith)
    go (inr q) = omega (arith, rises w i j e q k)
