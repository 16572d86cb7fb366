-- The places of runs in the batch: one behind the other, inside it; their groups; and fewer of the runs. Assumes nothing.
use mathlib.Core.Path.{◌≡◌, refl}
use mathlib.Core.List.{List}
use Prim.Native.Nat.{ℕ, zero, suc, ◌+◌, ◌-◌, ◌/◌, ◌≤◌, ◌<◌}
use native.Mathlib.Omega.{arith}
use native.Mathlib.Nat.{le_refl}
use native.Mathlib.Numerals.{add-one}
use lib.ListN.{length, get_or}
use Rattle.std.specs.Prelude.{None}
use Rattle.writing.specs.Handed.{first_place, run_group, Counted, Located}

module _ (taken : List ℕ) where
  place_on : (m i j : ℕ) → i + m ≡ j → first_place taken i ≤ first_place taken j
  unfolding first_place
  place_on zero i j e = let q : i ≡ j = omega arith in rw q (le_refl _)
  place_on (suc m) i zero e = absurd (let z : ⊥ = omega arith in z)
  place_on (suc m) i (suc j) e = omega (arith, place_on m i j (omega arith))

  -- Runs lie behind those before them.
  pub place_le : (i j : ℕ) → i ≤ j → first_place taken i ≤ first_place taken j
  place_le i j h = place_on (j - i) i j (omega arith)

  -- Run i begins at page p: so do the next run behind it, and its group.
  module _ (i p : ℕ) (at : p ≡ first_place taken i) where
    pub place_next : p + get_or taken i 0 ≡ first_place taken (i + 1)
    unfolding first_place
    place_next = rw (add-one i, ← at)

    pub group_here : (w : List ℕ) → get_or w p 0 / 256 ≡ run_group w taken i
    unfolding run_group
    group_here w = rw at

    -- its pages are in the batch, the first of them at least
    module _ (w : List ℕ) (n : ℕ) (c : Counted w taken n) (h : i < n) where
      pub pages-inside : p + get_or taken i 0 ≤ length w
      pages-inside = omega (arith, place_next, place_le (i + 1) n (omega arith), c.pages)

      pub page-inside : p < length w
      page-inside = omega (arith, pages-inside, c.filled i h)

-- The first run is at a place that knows no end.
pub located_first : (w taken : List ℕ) (n : ℕ) → Located w taken n (record { run = 0; page = 0; end = None })
unfolding first_place
located_first w taken n = record { page = refl; end = λ e h. absurd cc }

-- Fewer runs are there with more.
pub fewer : (w taken : List ℕ) (m n : ℕ) → m ≤ n → Counted w taken n → Counted w taken m
fewer w taken m n h c = record { counts = omega (arith, c.counts); filled = λ i l. c.filled i (omega arith); pages = omega (arith, place_le taken m n h, c.pages) }
