-- What a lookup meets in a list of records: the word and intercept of the first that has the offset as a member. Assumes nothing.
use mathlib.Core.List.{List, [], ◌∷◌}
use mathlib.Core.Option.{Option, none}
use Prim.Native.Nat.{ℕ}
use lib.IntN.{ℤ, pos, ◌+ℤ◌}
use Rattle.model.specs.Lists.{or_else}
use Rattle.model.specs.Record.{Record, kind_of, rise, member}

-- What decides a prediction: a record's word and intercept.
pub record Line : Type 0 where
  pub word : ℕ
  pub intercept : ℤ

abbrev pub line_of : Record → Line
line_of r = record { word = r.word; intercept = r.intercept }

-- what a line predicts at offset o
unfoldable pub line_predict : Line → ℕ → ℤ
line_predict l o = l.intercept +ℤ pos (rise (kind_of l.word) o)

-- the line of the first record, in listing order, that has o as a member
unfoldable pub met : ℕ → List Record → Option Line
met o [] = none
met o (r ∷ l) = or_else (member r o) (line_of r) (met o l)

-- records put over what was met before, one after the other
unfoldable pub overlay : ℕ → List Record → Option Line → Option Line
overlay o [] old = old
overlay o (r ∷ rs) old = overlay o rs (or_else (member r o) (line_of r) old)
