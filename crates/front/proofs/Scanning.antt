-- Passes over the counts, block by block: what the whole gives is what the rest gives from here. Assumes nothing.
use mathlib.Core.Path.{◌≡◌, refl, sym, ◌∙◌}
use mathlib.Core.List.{List, [], ◌∷◌}
use mathlib.Core.Logic.{◌≢◌}
use mathlib.Core.Bool.{Bool, true, false, true≢false}
use Prim.Native.Nat.{ℕ, zero, suc, ◌+◌, ◌≤◌, ◌<◌}
use native.Mathlib.Omega.{arith}
use native.Mathlib.Numerals.{add-one}
use lib.Dec.{leb, eqb}
use lib.ListN.{length, get_or, drop, drop_of_length-le}
use lib.Seq.{drop-cons}
use borrow.Author.Tests.{eqb-true, eqb-false, eq-eqb, ne_eqb}
use mir.Val.{bool_byte}
use Rattle.std.specs.Bool.{MatchBool}
use Rattle.model.specs.Lists.{all}
use Rattle.model.proofs.Bools.{and_i, is_false, all_head, all_tail}
use Rattle.model.specs.State.{free_blocks, lowest_in}

-- what the blocks from k on give: the lowest free one, how many are free
unfoldable pub lowest_from : List ℕ → ℕ → ℕ
lowest_from cs k = get_or (free_blocks k (drop k cs)) 0 0

unfoldable pub free_from : List ℕ → ℕ → ℕ
free_from cs k = length (free_blocks k (drop k cs))

-- one more element of the rest, and none
module _ {A : Type 0} (l : List A) (a : A) (k : ℕ) where
  rest : k < length l → drop k l ≡ get_or l k a ∷ drop (k + 1) l
  rest h = rw (add-one k) (drop-cons l k a h)

  over : length l ≤ k → drop k l ≡ []
  over h = drop_of_length-le l h

-- a free block in front, and a used one
free_head : (k c : ℕ) (cs : List ℕ) → c ≡ 0 → free_blocks k (c ∷ cs) ≡ k ∷ free_blocks (suc k) cs
unfolding free_blocks
free_head k c cs e = rw (eq-eqb c 0 e, free_blocks)

used_head : (k c : ℕ) (cs : List ℕ) → (c ≡ 0 → ⊥) → free_blocks k (c ∷ cs) ≡ free_blocks (suc k) cs
unfolding free_blocks
used_head k c cs n = rw (ne_eqb c 0 n, free_blocks)

no_blocks : (k : ℕ) → free_blocks k [] ≡ []
unfolding free_blocks
no_blocks k = refl

-- 1 where the block is free, else 0
pub free_one : (k c x : ℕ) → c ≡ x → bool_byte (eqb c 0) ≡ length (free_blocks k (x ∷ []))
free_one k c x e = go (eqb x 0) refl
  where
    go : (t : Bool) → eqb x 0 ≡ t → bool_byte (eqb c 0) ≡ length (free_blocks k (x ∷ []))
    go true q = rw (e, q, free_head k x [] (eqb-true x 0 q), no_blocks (suc k))
    go false q = rw (e, q, used_head k x [] (eqb-false x 0 q), no_blocks (suc k))

module _ (cs : List ℕ) (k c : ℕ) (e : c ≡ get_or cs k 0) where
  -- the lowest free block, found or not yet
  pub lowest_here : lowest_in cs ≡ lowest_from cs k → k < length cs → c ≡ 0 → k ≡ lowest_in cs
  unfolding lowest_from
  lowest_here l h z = sym (l ∙ rw (rest cs 0 k h, free_head k (get_or cs k 0) (drop (k + 1) cs) (sym e ∙ z)))

  pub lowest_on : lowest_in cs ≡ lowest_from cs k → k < length cs → (c ≡ 0 → ⊥) → lowest_in cs ≡ lowest_from cs (k + 1)
  unfolding lowest_from
  lowest_on l h n = l ∙ rw (rest cs 0 k h, used_head k (get_or cs k 0) (drop (k + 1) cs) (λ q. n (e ∙ q)), add-one k)

pub lowest-end : (cs : List ℕ) (k : ℕ) → lowest_in cs ≡ lowest_from cs k → length cs ≤ k → 0 ≡ lowest_in cs
unfolding lowest_from
lowest-end cs k l h = sym (l ∙ rw (over cs 0 k h, no_blocks k))

-- how many are free
free_step : (k c : ℕ) (cs : List ℕ) → length (free_blocks k (c ∷ cs)) ≡ length (free_blocks k (c ∷ [])) + length (free_blocks (suc k) cs)
free_step k c cs = go (eqb c 0) refl
  where
    go : (t : Bool) → eqb c 0 ≡ t → length (free_blocks k (c ∷ cs)) ≡ length (free_blocks k (c ∷ [])) + length (free_blocks (suc k) cs)
    go true e = let z : c ≡ 0 = eqb-true c 0 e in rw (free_head k c cs z, free_head k c [] z, no_blocks (suc k)) (omega arith)
    go false e = let n : c ≢ 0 = eqb-false c 0 e in rw (used_head k c cs n, used_head k c [] n, no_blocks (suc k)) (omega arith)

module _ (cs : List ℕ) (k c : ℕ) (e : c ≡ length (free_blocks k (get_or cs k 0 ∷ []))) where
  free_on : k < length cs → free_from cs k ≡ c + free_from cs (k + 1)
  unfolding free_from
  free_on h = rw (rest cs 0 k h, e, add-one k) (free_step k (get_or cs k 0) (drop (suc k) cs))

  -- a turn of the count
  pub free_next : (n : ℕ) → free_from cs 0 ≡ n + free_from cs k → k < length cs → free_from cs 0 ≡ n + c + free_from cs (k + 1)
  free_next n q h = omega (arith, q, free_on h)

-- and its end
free-end : (cs : List ℕ) (k : ℕ) → length cs ≤ k → free_from cs k ≡ 0
unfolding free_from
free-end cs k h = rw (over cs 0 k h, no_blocks k)

pub free_all : (cs : List ℕ) (k n : ℕ) → free_from cs 0 ≡ n + free_from cs k → length cs ≤ k → n ≡ free_from cs 0
free_all cs k n q h = omega (arith, q, free-end cs k h)

-- whether no count exceeds b, by the counts one by one
module _ (b : ℕ) where
  every : (cs : List ℕ) → ((k : ℕ) → k < length cs → leb (get_or cs k 0) b ≡ true) → all (λ c. leb c b) cs ≡ true
  unfolding all
  every [] h = refl
  every (c ∷ cs) h = and_i _ _ (h 0 (omega arith)) (every cs (λ k l. h (suc k) (omega arith)))

  each : (cs : List ℕ) (k : ℕ) → k < length cs → all (λ c. leb c b) cs ≡ true → leb (get_or cs k 0) b ≡ true
  each [] k l h = absurd (let z : ⊥ = omega arith in z)
  each (c ∷ cs) zero l h = all_head _ c cs h
  each (c ∷ cs) (suc k) l h = each cs k (omega arith) (all_tail _ c cs h)

  pub all_told : (cs : List ℕ) (m : ℕ) (r : Bool) → length cs ≡ m
      → MatchBool r ((k : ℕ) → k < m → leb (get_or cs k 0) b ≡ true) ((k : ℕ) × (k < m) × (leb (get_or cs k 0) b ≡ false))
      → r ≡ all (λ c. leb c b) cs
  all_told cs m true e f = sym (every cs (λ k l. f k (omega arith)))
  all_told cs m false e (k, l, q) = sym (is_false _ (λ h. true≢false (sym (each cs k (omega arith) h) ∙ q)))
