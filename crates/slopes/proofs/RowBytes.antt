-- The bytes of a row, and in how many of eight rows one stands. Assumes nothing.
use mathlib.Core.Path.{◌≡◌}
use mathlib.Core.Bool.{Bool, true, false}
use mathlib.Core.List.{List}
use Prim.Native.Nat.{ℕ, ◌+◌, ◌*◌, ◌-◌, ◌/◌, ◌%◌}
use native.Mathlib.Omega.{arith}
use lib.Dec.{eqb}
use lib.ListN.{get_or}
use mir.Val.{bool_byte}
use Rattle.slopes.specs.Counting.{pick_of, how_many, above, above_at, hits}

pub above_is : (a o q l r : ℕ) → r ≡ (q + 768 - (a * o + 255) / 256 - l) % 256 → r ≡ above a o q l
unfolding above
above_is a o q l r e = e

pub above_at_lem : (w : List ℕ) (a l q p : ℕ) → q ≡ p → above a (get_or w q 0 % 256) q l ≡ above_at w a p l
unfolding above_at
above_at_lem w a l q p e = rw e

-- 1 where c stands at place j
abbrev pub stands : List ℕ → (c j : ℕ) → ℕ
stands rows c j = bool_byte (eqb (get_or rows j 0) c)

as_pick : (t : Bool) (n : ℕ) → n ≡ bool_byte t → n ≡ pick_of t 1 0
unfolding pick_of
as_pick true n e = e
as_pick false n e = e

pub hits_are : (rows : List ℕ) (c k n₀ n₁ n₂ n₃ n₄ n₅ n₆ n₇ : ℕ) → n₀ ≡ stands rows c k → n₁ ≡ stands rows c (32 + k)
    → n₂ ≡ stands rows c (64 + k) → n₃ ≡ stands rows c (96 + k) → n₄ ≡ stands rows c (128 + k) → n₅ ≡ stands rows c (160 + k) → n₆ ≡ stands rows c (192 + k)
    → n₇ ≡ stands rows c (224 + k) → n₀ + n₁ + (n₂ + n₃) + (n₄ + n₅ + (n₆ + n₇)) ≡ hits rows c k
unfolding hits how_many
hits_are rows c k n₀ n₁ n₂ n₃ n₄ n₅ n₆ n₇ e₀ e₁ e₂ e₃ e₄ e₅ e₆ e₇ =
    let z : 0 + k ≡ k = omega arith in
    let q : n₀ ≡ stands rows c (0 + k) = rw z e₀ in
    omega (arith, as_pick _ _ q, as_pick _ _ e₁, as_pick _ _ e₂, as_pick _ _ e₃, as_pick _ _ e₄, as_pick _ _ e₅, as_pick _ _ e₆, as_pick _ _ e₇)
