-- Lists given place by place: their elements, and two that are alike everywhere or but at one place. Assumes nothing.
use mathlib.Core.Path.{◌≡◌, refl, ap, ◌∙◌}
use mathlib.Core.List.{List, ◌∷◌}
use mathlib.Core.Logic.{◌≢◌, ◌⊎◌, inl, inr}
use mathlib.Core.Bool.{Bool, true, false}
use Prim.Native.Nat.{ℕ, zero, suc, ◌+◌, ◌≤◌, ◌<◌}
use native.Mathlib.Omega.{arith}
use native.Mathlib.Nat.{zero-add}
use lib.Dec.{ltb}
use lib.ListN.{length, get_or, set}
use borrow.Author.Tests.{ltb-true, ltb-false}
use Rattle.front.specs.Tables.{list_from}

-- below or above another number
pub beside : (i k : ℕ) → i ≢ k → (i < k) ⊎ (k < i)
beside i k n = go (ltb i k) refl
  where
    go : (t : Bool) → ltb i k ≡ t → (i < k) ⊎ (k < i)
    go true e = inl (ltb-true i k e)
    go false e = let l : k ≤ i = ltb-false i k e in inr (omega arith)

module _ {A : Type 0} where
  pub length_from : (f : ℕ → A) (k n : ℕ) → length (list_from f k n) ≡ n
  unfolding list_from
  length_from f k zero = refl
  length_from f k (suc n) = ap suc (length_from f (suc k) n)

  get_or-behind : (f : ℕ → A) (k n i : ℕ) (a : A) → i < n → get_or (list_from f k n) i a ≡ f (k + i)
  unfolding list_from
  get_or-behind f k zero i a h = absurd (omega arith)
  get_or-behind f k (suc n) zero a h = let e : k ≡ k + 0 = omega arith in ap f e
  get_or-behind f k (suc n) (suc i) a h = let e : suc k + i ≡ k + suc i = omega arith in get_or-behind f (suc k) n i a (omega arith) ∙ ap f e

  pub get_or_from : (f : ℕ → A) (n i : ℕ) (a : A) → i < n → get_or (list_from f 0 n) i a ≡ f i
  get_or_from f n i a h = get_or-behind f 0 n i a h ∙ ap f (zero-add i)

  -- alike at each place
  pub from_same : (f g : ℕ → A) (k n : ℕ) → ((i : ℕ) → k ≤ i → i < k + n → f i ≡ g i) → list_from f k n ≡ list_from g k n
  unfolding list_from
  from_same f g k zero e = refl
  from_same f g k (suc n) e =
      ap (λ (x : A). x ∷ list_from f (suc k) n) (e k (omega arith) (omega arith))
      ∙ ap (λ (l : List A). g k ∷ l) (from_same f g (suc k) n (λ i l h. e i (omega arith) (omega arith)))

  -- alike but at place j
  module _ (f g : ℕ → A) (j m : ℕ) (other : (i : ℕ) → i < m → i ≢ j → f i ≡ g i) where
    set-behind : (k n i : ℕ) → k + i ≡ j → i < n → k + n ≡ m → list_from f k n ≡ set (list_from g k n) i (f j)
    unfolding list_from
    set-behind k zero i e h l = absurd (omega arith)
    set-behind k (suc n) zero e h l =
        let d : k ≡ j = omega arith in
        ap (λ (x : ℕ). f x ∷ list_from f (suc k) n) d
        ∙ ap (λ (l : List A). f j ∷ l) (from_same f g (suc k) n (λ i a b. other i (omega arith) (λ q. omega arith)))
    set-behind k (suc n) (suc i) e h l =
        ap (λ (x : A). x ∷ list_from f (suc k) n) (other k (omega arith) (λ q. omega arith))
        ∙ ap (λ (l : List A). g k ∷ l) (set-behind (suc k) n i (omega arith) (omega arith) (omega arith))

    pub from_set : j < m → list_from f 0 m ≡ set (list_from g 0 m) j (f j)
    from_set h = set-behind 0 m j (zero-add j) h (zero-add m)
