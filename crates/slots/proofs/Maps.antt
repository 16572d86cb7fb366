-- A list read element by element, after an element was set, put in or taken out: by induction on the list. Assumes nothing.
use mathlib.Core.Path.{◌≡◌, refl, ap}
use mathlib.Core.List.{List, [], ◌∷◌, map}
use Prim.Native.Nat.{ℕ, zero, suc}
use lib.ListN.{set}
use Rattle.octets.specs.Slots.{insert_at, remove_at}

module _ {A B : Type 0} (f : A → B) where
  pub map-set : (l : List A) (i : ℕ) (v : A) → map f (set l i v) ≡ set (map f l) i (f v)
  map-set [] i v = refl
  map-set (x ∷ l) zero v = refl
  map-set (x ∷ l) (suc i) v = ap (λ (m : List B). f x ∷ m) (map-set l i v)

  pub map-insert_at : (i : ℕ) (v : A) (l : List A) → map f (insert_at i v l) ≡ insert_at i (f v) (map f l)
  unfolding insert_at
  map-insert_at zero v l = refl
  map-insert_at (suc i) v [] = refl
  map-insert_at (suc i) v (x ∷ l) = ap (λ (m : List B). f x ∷ m) (map-insert_at i v l)

  pub map-remove_at : (i : ℕ) (l : List A) → map f (remove_at i l) ≡ remove_at i (map f l)
  unfolding remove_at
  map-remove_at i [] = refl
  map-remove_at zero (x ∷ l) = refl
  map-remove_at (suc i) (x ∷ l) = ap (λ (m : List B). f x ∷ m) (map-remove_at i l)
