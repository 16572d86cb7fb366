-- The wrong predictions of pages, as specs/Demand2.antt counts them, are those that learning counts of their offsets. Assumes nothing.
use mathlib.Core.Path.{◌≡◌, refl, ap, ap₂}
use mathlib.Core.List.{List, [], ◌∷◌}
use mathlib.Core.Bool.{Bool, true, false}
use Prim.Native.Nat.{ℕ, suc, ◌+◌, ◌*◌}
use lib.Dec.{eqb}
use lib.IntN.{ℤ, pos, negsuc, ◌+ℤ◌}
use borrow.Author.Tests.{eqb-true, eqb-false, eq-eqb, ne_eqb}
use Rattle.model.specs.Device.{ceil, offset_of}
use Rattle.model.specs.Learning.{wrong_at, wrongs}
use Rattle.model.specs.Demand2.{missed, wrong_predictions, offsets}
use Rattle.model.proofs.Integers.{two_sums, other_sum}

misses : (z : ℤ) (p : ℕ) → (z ≡ pos p → ⊥) → missed z p ≡ 1
unfolding missed
misses (pos q) p f = rw (ne_eqb q p (λ e. f (ap pos e)), missed)
misses (negsuc m) p f = refl

module _ (a u : ℕ) (I : ℤ) (e : I +ℤ pos 256 ≡ pos u) where
  missed_at : (o p : ℕ) → missed (I +ℤ pos (ceil (a * o) 256)) p ≡ wrong_at a u o p
  unfolding missed wrong_at
  missed_at o p = go (eqb (u + c) (p + 256)) refl
    where
      c : ℕ
      c = ceil (a * o) 256

      go : (t : Bool) → eqb (u + c) (p + 256) ≡ t → missed (I +ℤ pos c) p ≡ wrong_at a u o p
      go true q =
          let z : I +ℤ pos c ≡ pos p = other_sum I 256 c u p e (eqb-true (u + c) (p + 256) q) in
          rw (q, wrong_at, z) (rw (eq-eqb p p refl, missed))
      go false q =
          rw (q, wrong_at) (misses (I +ℤ pos c) p (λ z. eqb-false (u + c) (p + 256) q (two_sums I 256 c u p e z)))

  -- An intercept's wrong predictions are those of the intercept plus 256.
  pub wrong_is : (p : ℕ) (l : List ℕ) → wrong_predictions a I p l ≡ wrongs a u p (offsets l)
  unfolding wrong_predictions wrongs offsets
  wrong_is p [] = refl
  wrong_is p (x ∷ l) = ap₂ (λ (n m : ℕ). n + m) (missed_at (offset_of x) p) (wrong_is (suc p) l)
