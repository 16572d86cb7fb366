-- Stores element by element, and through a part of the list: by induction on the list. Assumes nothing.
use mathlib.Core.Path.{◌≡◌, refl, sym, ap, ◌∙◌}
use mathlib.Core.List.{List, [], ◌∷◌, ◌++◌}
use Prim.Native.Nat.{ℕ, zero, suc, ◌+◌, ◌≤◌}
use native.Mathlib.Omega.{arith}
use lib.ListN.{length, set, take, drop}
use lib.Seq.{drop-drop}
use Rattle.model.specs.Lists.{store}
use Rattle.model.proofs.Lists.{store_nil, store_first, store_append}

module _ {A : Type 0} where
  -- the last element, then the others
  pub store_last : (s : List A) (p : ℕ) (vs : List A) (v : A) → store s p (vs ++ (v ∷ [])) ≡ store (set s (p + length vs) v) p vs
  unfolding store
  store_last [] p vs v = refl
  store_last (x ∷ s) zero [] v = ap (λ (l : List A). v ∷ l) (store_nil s 0)
  store_last (x ∷ s) zero (u ∷ vs) v =
      let e : 0 + suc (length vs) ≡ suc (0 + length vs) = omega arith in
      rw e (ap (λ (l : List A). u ∷ l) (store_last s zero vs v))
  store_last (x ∷ s) (suc p) vs v =
      let e : suc p + length vs ≡ suc (p + length vs) = omega arith in
      rw e (ap (λ (l : List A). x ∷ l) (store_last s p vs v))

  -- a store of one element
  pub store_one : (s : List A) (p : ℕ) (v : A) → set s p v ≡ store s p (v ∷ [])
  store_one s p v = sym (store_first s p v [] ∙ store_nil (set s p v) (suc p))

  -- a store over the whole list
  pub store_all : (s vs : List A) → length vs ≡ length s → store s 0 vs ≡ vs
  unfolding store
  store_all [] [] h = refl
  store_all [] (v ∷ vs) h = absurd (let z : ⊥ = omega arith in z)
  store_all (x ∷ s) [] h = absurd (let z : ⊥ = omega arith in z)
  store_all (x ∷ s) (v ∷ vs) h = ap (λ (l : List A). v ∷ l) (store_all s vs (omega arith))

  -- one store, and another behind it
  pub store_then : (s : List A) (p : ℕ) (vs us : List A) → store (store s p vs) (p + length vs) us ≡ store s p (vs ++ us)
  store_then s p vs us = sym (store_append s p vs us)

  -- the first n elements after a store
  pub take-store : (n : ℕ) (s : List A) (p : ℕ) (vs : List A) → take n (store s p vs) ≡ store (take n s) p vs
  unfolding store
  take-store zero s p vs = refl
  take-store (suc n) [] p vs = refl
  take-store (suc n) (x ∷ s) zero [] = refl
  take-store (suc n) (x ∷ s) zero (v ∷ vs) = ap (λ (l : List A). v ∷ l) (take-store n s zero vs)
  take-store (suc n) (x ∷ s) (suc p) vs = ap (λ (l : List A). x ∷ l) (take-store n s p vs)

  -- what stands from place a on after a store there
  pub drop-store : (a : ℕ) (s : List A) (p : ℕ) (vs : List A) → drop a (store s (a + p) vs) ≡ store (drop a s) p vs
  unfolding store
  drop-store zero s p vs = let e : 0 + p ≡ p = omega arith in rw e
  drop-store (suc a) [] p vs = refl
  drop-store (suc a) (x ∷ s) p vs = let e : suc a + p ≡ suc (a + p) = omega arith in rw e (drop-store a s p vs)

  -- a store in a part, seen in the part
  pub part-store : (n a : ℕ) (s : List A) (p : ℕ) (vs : List A) → take n (drop a (store s (a + p) vs)) ≡ store (take n (drop a s)) p vs
  part-store n a s p vs = ap (λ (l : List A). take n l) (drop-store a s p vs) ∙ take-store n (drop a s) p vs

  -- a part replaced by t: t stored
  pub replaced : (a : ℕ) (s t : List A) → a + length t ≤ length s → take a s ++ (t ++ drop (a + length t) s) ≡ store s a t
  unfolding store
  replaced zero s [] h = sym (store_nil s 0)
  replaced zero [] (v ∷ t) h = absurd (omega arith)
  replaced zero (x ∷ s) (v ∷ t) h =
      let e : 0 + suc (length t) ≡ suc (0 + length t) = omega arith in
      rw e (ap (λ (l : List A). v ∷ l) (replaced zero s t (omega arith)))
  replaced (suc a) [] t h = absurd (omega arith)
  replaced (suc a) (x ∷ s) t h =
      let e : suc a + length t ≡ suc (a + length t) = omega arith in
      rw e (ap (λ (l : List A). x ∷ l) (replaced a s t (omega arith)))

  -- the same for a part of n that was lent, in the words of the loan
  pub lent_back : (n a : ℕ) (s t : List A) → length t ≡ n → a + n ≤ length s → take a s ++ (t ++ drop n (drop a s)) ≡ store s a t
  lent_back n a s t e h =
      let d : drop n (drop a s) ≡ drop (a + length t) s = rw e (drop-drop n a s) in
      rw d (replaced a s t (omega arith))
