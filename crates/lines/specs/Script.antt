-- Document 01, 'Cases': which call a line of a script is, from the line's bytes without its newline. Assumes nothing.
use Rattle.std.specs.Prelude.{List, [], ◌∷◌, Bool, true, false, ◌&&◌, cond, ℕ, zero, suc, ◌+◌, ◌-◌, ◌*◌, ◌/◌, ◌%◌, leb, eqb, length, take, drop}
use Rattle.std.proofs.Math.Option.{Option, none, some}

-- "decimal": the character of a digit
unfoldable pub is_digit : ℕ → Bool
is_digit c = leb 48 c && leb c 57

-- the number whose first digits make v and whose other digits are these, if they are all digits
unfoldable pub digits_from : ℕ → List ℕ → Option ℕ
unfolding is_digit
digits_from v [] = some v
digits_from v (c ∷ l) = elim (is_digit c) [ true ↦ digits_from (10 * v + (c - 48)) l | false ↦ none ]

-- "right-justified": blanks, then digits up to the field's end, at least one; leading zeros are digits
unfoldable pub number_in : List ℕ → Option ℕ
unfolding digits_from
number_in [] = none
number_in (c ∷ l) = elim (eqb c 32) [ true ↦ number_in l | false ↦ digits_from 0 (c ∷ l) ]

-- "an operation number .. in 2 columns"
abbrev pub operation_in : List ℕ → Option ℕ
operation_in l = number_in (take 2 l)

-- "then .. numbers, each right-justified in 8": the columns of number i
abbrev pub field_at : List ℕ → ℕ → List ℕ
field_at l i = take 8 (drop (2 + 8 * i) l)

-- a number before others, if all are there
unfoldable pub joined : Option ℕ → Option (List ℕ) → Option (List ℕ)
joined (some n) (some ns) = some (n ∷ ns)
joined (some n) none = none
joined none ns = none

-- the k numbers from number i on, if each of their fields holds one
unfoldable pub numbers_from : List ℕ → ℕ → ℕ → Option (List ℕ)
unfolding number_in joined
numbers_from l i zero = some []
numbers_from l i (suc k) = joined (number_in (field_at l i)) (numbers_from l (suc i) k)

-- the line has its first 2 columns, and behind them whole fields of 8
unfoldable pub in_columns : List ℕ → Bool
in_columns l = leb 2 (length l) && eqb ((length l - 2) % 8) 0

-- how many fields stand behind the first 2 columns
abbrev pub field_count : List ℕ → ℕ
field_count l = (length l - 2) / 8

-- "(1 format, 2 flush, 3 lookup, 4 collection, 5 compaction, 6 list)", "up to 64 decimal numbers", "Format has M, B, N, g; flush its pages;
-- collection nothing; the others one number": the operation takes n numbers
unfoldable pub takes : ℕ → ℕ → Bool
takes op n =
    cond (eqb op 1) (eqb n 4)
    (cond (eqb op 2) (leb n 64)
    (cond (eqb op 3) (eqb n 1)
    (cond (eqb op 4) (eqb n 0)
    (cond (eqb op 5) (eqb n 1)
    (cond (eqb op 6) (eqb n 1)
    false)))))

-- what a line is: an operation with its numbers, or "bad line"
pub data ScriptLine : Type 0 where
  call : (operation : ℕ) (numbers : List ℕ) → ScriptLine
  bad : ScriptLine

-- an operation with as many numbers as it takes is a call; "Other lines print "bad line""
unfoldable pub called : Option ℕ → Option (List ℕ) → ScriptLine
unfolding takes
called (some op) (some ns) = elim (takes op (length ns)) [ true ↦ call op ns | false ↦ bad ]
called (some op) none = bad
called none ns = bad

-- which call a line is
unfoldable pub line_of : List ℕ → ScriptLine
unfolding number_in numbers_from in_columns called
line_of l = elim (in_columns l) [ true ↦ called (operation_in l) (numbers_from l 0 (field_count l)) | false ↦ bad ]

-- the numbers of a line's call; a bad line has none
unfoldable pub numbers_of : ScriptLine → List ℕ
numbers_of (call op ns) = ns
numbers_of bad = []
