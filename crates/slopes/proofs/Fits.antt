-- Wrong predictions, and the better of two fits. Assumes nothing.
use mathlib.Core.Path.{◌≡◌, refl, sym, ◌∙◌}
use mathlib.Core.Bool.{Bool, true, false}
use Prim.Native.Nat.{ℕ, ◌+◌, ◌*◌, ◌/◌, ◌≤◌, ◌<◌}
use native.Mathlib.Omega.{arith}
use lib.Dec.{eqb}
use Rattle.model.specs.Learning.{Fit, wrong_at, better}
use Rattle.model.proofs.Fewest.{Bettered, kept, replaced, bettered}

-- a prediction is right, or one wrong
pub wrong-small : (a u o p k : ℕ) → k ≡ wrong_at a u o p → k ≤ 1
unfolding wrong_at
wrong-small a u o p k e = rw e (go (eqb (u + (a * o + 255) / 256) (p + 256)) refl)
  where
    go : (t : Bool) → eqb (u + (a * o + 255) / 256) (p + 256) ≡ t → wrong_at a u o p ≤ 1
    go true q = rw (q, wrong_at) (omega arith)
    go false q = rw (q, wrong_at) (omega arith)

module _ (f g : Fit) where
  better-second : f.size ≤ g.size → (g.size ≡ f.size → g.wrong < f.wrong) → g ≡ better f g
  better-second h k = go (bettered f g)
    where
      go : {r : Fit} → Bettered f g r → g ≡ r
      go (kept s w) = absurd (omega (arith, w (omega arith), k (omega arith)))
      go (replaced s w) = refl

  pub better_first : g.size ≤ f.size → (g.size ≡ f.size → f.wrong ≤ g.wrong) → f ≡ better f g
  better_first h k = go (bettered f g)
    where
      go : {r : Fit} → Bettered f g r → f ≡ r
      go (kept s w) = refl
      go (replaced s w) = absurd (omega (arith, w (omega arith), k (omega arith)))

-- the better of two fits, test by test
pub longer_first : (f g : Fit) → g.size < f.size → f ≡ better f g
longer_first f g h = better_first f g (omega arith) (λ e. absurd (omega arith))

pub fewer-second : (f g : Fit) → f.size ≤ g.size → g.wrong < f.wrong → g ≡ better f g
fewer-second f g h k = better-second f g h (λ e. k)

pub fewer_first : (f g : Fit) → g.size ≤ f.size → f.wrong ≤ g.wrong → f ≡ better f g
fewer_first f g h k = better_first f g h (λ e. k)

-- of three fits, in whichever order they are compared
pub better_assoc : (f g h : Fit) → better f (better g h) ≡ better (better f g) h
better_assoc f g h = go (bettered f g) (bettered g h)
  where
    go : {r s : Fit} → Bettered f g r → Bettered g h s → better f s ≡ better r h
    go (kept u v) (kept x y) =
        sym (better_first f g u v) ∙ better_first f h (omega arith) (λ e. omega (arith, v (omega arith), y (omega arith)))
    go (kept u v) (replaced x y) = refl
    go (replaced u v) (kept x y) = sym (better-second f g u v) ∙ better_first g h x y
    go (replaced u v) (replaced x y) =
        sym (better-second f h (omega arith) (λ e. omega (arith, v (omega arith), y (omega arith)))) ∙ better-second g h x y
