-- Tests of all elements of a list. Assumes nothing.
use mathlib.Core.Path.{◌≡◌}
use mathlib.Core.List.{List, [], ◌∷◌, ◌++◌}
use mathlib.Core.Bool.{Bool, true}
use Prim.Native.Nat.{ℕ, zero, suc, ◌<◌}
use native.Mathlib.Omega.{arith}
use lib.ListN.{length, get_or}
use Rattle.model.specs.Lists.{all}
use Rattle.model.proofs.Bools.{all_head, all_tail, all_cons}

module _ {A : Type 0} (t : A → Bool) where
  -- element i passes the test
  pub all_at : (l : List A) (i : ℕ) (d : A) → i < length l → all t l ≡ true → t (get_or l i d) ≡ true
  all_at [] i d h a = absurd (omega arith)
  all_at (x ∷ l) zero d h a = all_head t x l a
  all_at (x ∷ l) (suc i) d h a = all_at l i d (omega arith) (all_tail t x l a)

  -- two lists pass it, one behind the other
  pub all_join : (l m : List A) → all t l ≡ true → all t m ≡ true → all t (l ++ m) ≡ true
  all_join [] m a b = b
  all_join (x ∷ l) m a b = all_cons t x (l ++ m) (all_head t x l a) (all_join l m (all_tail t x l a) b)
