-- Slopes of which an intercept is left take all pages so far. Assumes nothing.
use mathlib.Core.Path.{◌≡◌, ◌∙◌, ap₂}
use mathlib.Core.List.{List}
use mathlib.Core.Bool.{Bool}
use Prim.Native.Nat.{ℕ, ◌+◌}
use lib.Dec.{leb}
use lib.ListN.{get_or}
use Rattle.slopes.specs.Slopes.{takes, some_of, Windows}
use Rattle.slopes.proofs.SomeOf.{some_same}

module _ (g : ℕ) (w : List ℕ) (a i : ℕ) where
  pub left-takes : (m : ℕ) (l h : List ℕ) (r : Bool) → Windows g w a i m l h → r ≡ some_of (λ k. leb (get_or l k 0) (get_or h k 0)) 32
      → r ≡ some_of (λ k. takes g w (a + k) i m) 32
  unfolding takes
  left-takes m l h r so e = e ∙ some_same _ _ 32 (λ k b. ap₂ leb (so k b).0 (so k b).1)
