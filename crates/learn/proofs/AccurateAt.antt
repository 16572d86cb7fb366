-- The accurate run at a place: a single where no page of the group is behind it, otherwise at the stride of the first two. Assumes nothing.
use mathlib.Core.Path.{◌≡◌, refl, ◌∙◌}
use mathlib.Core.List.{List, [], ◌∷◌}
use mathlib.Core.Bool.{true}
use Prim.Native.Nat.{ℕ, suc, ◌+◌, ◌-◌, ◌*◌, ◌/◌, ◌%◌, ◌≤◌, ◌<◌}
use native.Mathlib.Omega.{arith}
use native.Mathlib.Nat.{div-le_self, suc-mul}
use lib.ListN.{get_or}
use lib.IntN.{ℤ, sub_ℕ}
use Rattle.model.specs.Lists.{ascending}
use Rattle.model.specs.Learning.{Bounds, Run, stride_length, accurate_run}
use Rattle.record.specs.declared.Record.{Record}
use Rattle.record.specs.Read.{bare}
use Rattle.slopes.specs.Places.{ahead_of, offsets_behind}
use Rattle.learn.specs.Runs.{accurate_at}
use Rattle.slopes.proofs.AheadOf.{Goes}
use Rattle.model.proofs.Ascent.{rises}
use Rattle.learn.proofs.Strides.{onward, onward-long}
use Rattle.learn.proofs.Differences.{less_zero}

-- the code's record and number are the run's
abbrev Matches : Record → ℕ → Run → Type 0
Matches r n m = (r ≡ bare m.learned) × (n ≡ m.taken)

one : (k p x : ℕ) (z : ℤ) → z ≡ sub_ℕ p 0 → Matches (record { start = x; span = 0; word = 0; intercept = z }) 1 (accurate_run k p x [])
unfolding accurate_run
one k p x z e = (rw (e ∙ less_zero p), refl)

several : (k p x y d n : ℕ) (l : List ℕ) (z : ℤ) → y - x ≡ d → n ≡ suc (stride_length d y l) → z ≡ sub_ℕ p ((x + (d - 1)) / d)
    → Matches (record { start = x; span = n * d; word = 2 * d; intercept = z }) (n + 1) (accurate_run k p x (y ∷ l))
unfolding accurate_run
several k p x y d n l z e f h =
    let q : n + 1 ≡ suc (suc (stride_length d y l)) = omega arith in
    rw (e, q, f, h) (refl, refl)

pub quotient_small : (s d : ℕ) → s < 256 → d ≤ 255 → (s + (d - 1)) / d < 512
quotient_small s d h k = omega (arith, div-le_self (s + (d - 1)) d)

module _ (w : List ℕ) (i : ℕ) where
  abbrev x : ℕ
  x = get_or w i 0

  -- it takes a page
  pub filled : (b : Bounds) → 1 ≤ (accurate_at b w i).taken
  unfolding accurate_at accurate_run
  filled b = go (offsets_behind w i)
    where
      go : (l : List ℕ) → 1 ≤ (accurate_run (x / 256) (b.first + i) (x % 256) l).taken
      go [] = omega arith
      go (y ∷ l) = omega arith

  pub single_at : (b : Bounds) (z : ℤ) → ahead_of w (x / 256) (i + 1) ≡ [] → z ≡ sub_ℕ (b.first + i) 0
      → Matches (record { start = x % 256; span = 0; word = 0; intercept = z }) 1 (accurate_at b w i)
  unfolding accurate_at offsets_behind
  single_at b z e h = rw e (one _ _ _ z h)

  -- A page of the group stands at the next place.
  module _ (asc : ascending w ≡ true) (g : Goes w (x / 256) (i + 1)) where
    abbrev d : ℕ
    d = get_or w (i + 1) 0 - x

    up : x < get_or w (i + 1) 0
    up = rises w i (i + 1) asc (omega arith) g.inside

    -- the stride of the two
    pub stride-small : (1 ≤ d) × (d ≤ 255)
    stride-small = (omega (arith, up), omega (arith, up, g.group))

    apart : get_or w (i + 1) 0 % 256 - x % 256 ≡ d
    apart = omega (arith, g.group, up)

    -- how many pages it takes
    pub taken_is : (b : Bounds) → (accurate_at b w i).taken ≡ 2 + onward w (x / 256) d (i + 1)
    unfolding accurate_at offsets_behind accurate_run
    taken_is b = rw g.is (rw apart (omega arith))

    -- Place e is its last.
    module _ (e : ℕ) (last : e ≡ i + 1 + stride_length d (get_or w (i + 1) 0 % 256) (offsets_behind w (i + 1))) where
      pages : e - i ≡ suc (onward w (x / 256) d (i + 1))
      unfolding offsets_behind
      pages =
          let n : e - i ≡ suc (stride_length d (get_or w (i + 1) 0 % 256) (ahead_of w (get_or w (i + 1) 0 / 256) (i + 1 + 1))) = omega arith in
          rw g.group at n

      span_is : get_or w e 0 - x ≡ (e - i) * d
      span_is =
          let n : ℕ = onward w (x / 256) d (i + 1) in
          let z : i + 1 + n ≡ e = omega (arith, pages) in
          let v = onward-long w (x / 256) d asc n (i + 1) g.group refl in
          rw pages (omega (arith, rw z at v, suc-mul n d, up))

      pub strided_at : (b : Bounds) (z : ℤ) → z ≡ sub_ℕ (b.first + i) ((x % 256 + (d - 1)) / d)
          → Matches (record { start = x % 256; span = get_or w e 0 - x; word = 2 * d; intercept = z }) (e - i + 1) (accurate_at b w i)
      unfolding accurate_at offsets_behind
      strided_at b z h = rw (span_is, g.is) (several _ _ _ _ d (e - i) _ z apart pages h)
