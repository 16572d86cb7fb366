-- The few functions on lists that the definitions of document 01's parts share. Assumes nothing.
use Rattle.std.specs.Prelude.{List, [], ◌∷◌, Bool, true, false, not, ◌&&◌, ℕ, zero, suc, ltb, eqb}
use Rattle.std.proofs.Math.Option.{Option, some}

-- each element passes the test
unfoldable pub all : {A : Type 0} → (A → Bool) → List A → Bool
all t [] = true
all t (x ∷ l) = t x && all t l

-- x is in the list
unfoldable pub elem : ℕ → List ℕ → Bool
elem x [] = false
elem x (y ∷ l) = elim (eqb x y) [ true ↦ true | false ↦ elem x l ]

-- no number stands in the list twice
unfoldable pub distinct : List ℕ → Bool
distinct [] = true
distinct (x ∷ l) = not (elem x l) && distinct l

-- the numbers ascend, each above the one before
unfoldable pub ascending : List ℕ → Bool
ascending [] = true
ascending (x ∷ l) = elim l [ [] ↦ true | y ∷ m ↦ ltb x y ] && ascending l

-- the last of x and the list behind it
unfoldable pub last_of : ℕ → List ℕ → ℕ
last_of x [] = x
last_of x (y ∷ l) = last_of y l

-- of the n numbers from x on, those that pass the test
unfoldable pub select : (ℕ → Bool) → ℕ → ℕ → List ℕ
select t zero x = []
select t (suc n) x = elim (t x) [ true ↦ x ∷ select t n (suc x) | false ↦ select t n (suc x) ]

-- the list with vs stored from place i on, one after the other; what would lie beyond its end is dropped
unfoldable pub store : {A : Type 0} → List A → ℕ → List A → List A
store [] i vs = []
store (x ∷ s) zero [] = x ∷ s
store (x ∷ s) zero (v ∷ vs) = v ∷ store s zero vs
store (x ∷ s) (suc i) vs = x ∷ store s i vs

-- a where the test holds, otherwise the other
unfoldable pub or_else : {A : Type 0} → Bool → A → Option A → Option A
or_else true a other = some a
or_else false a other = other
