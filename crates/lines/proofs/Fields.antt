-- A line's numbers, field by field: whether each field holds one, and their values. Assumes nothing.
use mathlib.Core.Path.{◌≡◌, refl, sym, ap}
use mathlib.Core.List.{List, ◌∷◌}
use mathlib.Core.Option.{Option, none, some}
use mathlib.Core.Bool.{true, false, true≢false, false≢true}
use Prim.Native.Nat.{ℕ, zero, suc, ◌+◌, ◌-◌, ◌≤◌, ◌<◌}
use native.Mathlib.Omega.{arith}
use native.Mathlib.Numerals.{add-one}
use lib.ListN.{length, set}
use Rattle.std.specs.Prelude as code
use Rattle.std.specs.Option.{is_some, unwrap_or}
use Rattle.model.specs.Lists.{store}
use Rattle.model.specs.Options.{as_option}
use Rattle.model.proofs.Lists.{store_nil, store_first}
use Rattle.lines.specs.Script.{number_in, field_at, joined, numbers_from}
use Rattle.lines.specs.Reading.{is_there, value_of, values_from}

-- what is not there is none
pub not_there : {A : Type 0} (o : Option A) → is_there o ≡ false → o ≡ none
unfolding is_there
not_there (some a) h = absurd (true≢false h)
not_there none h = refl

-- behind a number that is there stand those that are
there_behind : (n : ℕ) (o : Option (List ℕ)) → is_there (joined (some n) o) ≡ is_there o
unfolding is_there joined
there_behind n (some ns) = refl
there_behind n none = refl

-- a number and those behind it, where all are there
joined-values : (o : Option ℕ) (p : Option (List ℕ)) (vs : List ℕ) → is_there (joined o p) ≡ true → (is_there p ≡ true → p ≡ some vs) → joined o p ≡ some (value_of o ∷ vs)
unfolding is_there joined value_of
joined-values (some n) (some ns) vs h f = ap (λ (q : Option (List ℕ)). joined (some n) q) (f refl)
joined-values (some n) none vs h f = absurd (false≢true h)
joined-values none p vs h f = absurd (false≢true h)

-- a number that the code found, otherwise 0
pub value-told : (o : code.Option ℕ) (p : Option ℕ) → as_option o ≡ p → unwrap_or o 0 ≡ value_of p
unfolding as_option value_of
value-told (code.Some n) p e = rw (← e)
value-told code.None p e = rw (← e)

module _ (l : List ℕ) where
  -- number i, and those behind it
  numbers_first : (i count : ℕ) → i < count → numbers_from l i (count - i) ≡ joined (number_in (field_at l i)) (numbers_from l (i + 1) (count - (i + 1)))
  unfolding numbers_from
  numbers_first i count h =
      let e : count - i ≡ suc (count - (i + 1)) = omega arith in
      rw (e, ← add-one i)

  -- a field that holds none
  pub field_bad : (i count : ℕ) (o : code.Option ℕ) → i < count → as_option o ≡ number_in (field_at l i) → is_some o ≡ false → is_there (numbers_from l i (count - i)) ≡ false
  unfolding as_option is_there joined
  field_bad i count (code.Some n) h e k = absurd (true≢false k)
  field_bad i count code.None h e k = rw (numbers_first i count h, ← e)

  -- a field that holds one
  pub field_good : (i count : ℕ) (o : code.Option ℕ) → i < count → as_option o ≡ number_in (field_at l i) → is_some o ≡ true → is_there (numbers_from l i (count - i)) ≡ is_there (numbers_from l (i + 1) (count - (i + 1)))
  unfolding as_option
  field_good i count (code.Some n) h e k = rw (numbers_first i count h, ← e) (there_behind n (numbers_from l (i + 1) (count - (i + 1))))
  field_good i count code.None h e k = absurd (false≢true k)

  -- no field is left
  pub fields_passed : (i count : ℕ) → count ≤ i → is_there (numbers_from l i (count - i)) ≡ true
  unfolding is_there numbers_from
  fields_passed i count h = let e : count - i ≡ 0 = omega arith in rw e

  -- the numbers are the values, where each field holds one
  pub numbers-values : (i k : ℕ) → is_there (numbers_from l i k) ≡ true → numbers_from l i k ≡ some (values_from l i k)
  unfolding numbers_from values_from
  numbers-values i zero h = refl
  numbers-values i (suc k) h = joined-values (number_in (field_at l i)) (numbers_from l (suc i) k) (values_from l (suc i) k) h (numbers-values (suc i) k)

  -- there are as many values as fields
  pub length-values : (i k : ℕ) → length (values_from l i k) ≡ k
  unfolding values_from
  length-values i zero = refl
  length-values i (suc k) = ap suc (length-values (suc i) k)

  -- the value of number i is stored: those behind it are left
  pub values-turn : (s : List ℕ) (i count : ℕ) → i < count
      → store (set s i (value_of (number_in (field_at l i)))) (i + 1) (values_from l (i + 1) (count - (i + 1))) ≡ store s i (values_from l i (count - i))
  unfolding values_from
  values-turn s i count h =
      let e : count - i ≡ suc (count - (i + 1)) = omega arith in
      rw (e, add-one i) (sym (store_first s i (value_of (number_in (field_at l i))) (values_from l (suc i) (count - suc i))))

  -- no value is left
  pub values-stored : (s : List ℕ) (i count : ℕ) → count ≤ i → store s i (values_from l i (count - i)) ≡ s
  unfolding values_from
  values-stored s i count h = let e : count - i ≡ 0 = omega arith in rw e (store_nil s i)
