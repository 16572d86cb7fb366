-- The record that a lookup meets, and its line: where there is one there is the other. Assumes nothing.
use mathlib.Core.Path.{◌≡◌, refl, sym, ◌∙◌, ap}
use mathlib.Core.List.{List, [], ◌∷◌}
use mathlib.Core.Option.{Option, none, some}
use mathlib.Core.Bool.{Bool, true, false}
use Prim.Native.Nat.{ℕ}
use native.Mathlib.Omega.{arith}
use Rattle.model.specs.Lists.{or_else}
use Rattle.model.specs.Record.{Record, member, predict}
use Rattle.model.specs.Levels.{holder}
use Rattle.model.proofs.Line.{Line, line_of, line_predict, met}

-- the line of a record that may be missing
abbrev line_of_any : Option Record → Option Line
line_of_any none = none
line_of_any (some r) = some (line_of r)

line-or_else : (t : Bool) (r : Record) (x : Option Record) → line_of_any (or_else t r x) ≡ or_else t (line_of r) (line_of_any x)
unfolding or_else
line-or_else true r x = refl
line-or_else false r x = refl

met-line : (o : ℕ) (l : List Record) → met o l ≡ line_of_any (holder o l)
unfolding met holder
met-line o [] = refl
met-line o (r ∷ l) = ap (or_else (member r o) (line_of r)) (met-line o l) ∙ sym (line-or_else (member r o) r (holder o l))

-- Where no line is met, no record has the offset.
pub met_none : (o : ℕ) (l : List Record) → met o l ≡ none → holder o l ≡ none
met_none o l h = go (holder o l) refl (sym (met-line o l) ∙ h)
  where
    go : (x : Option Record) → holder o l ≡ x → line_of_any x ≡ none → holder o l ≡ none
    go none e k = e
    go (some r) e k = let z : ◌≡◌ {A = ℕ} 0 1 = cc in absurd (omega arith)

-- A line that is met is that of the record that has the offset.
pub met_some : (o : ℕ) (l : List Record) (m : Line) → met o l ≡ some m → (r : Record) × (holder o l ≡ some r) × (line_of r ≡ m)
met_some o l m h = go (holder o l) refl (sym (met-line o l) ∙ h)
  where
    go : (x : Option Record) → holder o l ≡ x → line_of_any x ≡ some m → (r : Record) × (holder o l ≡ some r) × (line_of r ≡ m)
    go none e k = let z : ◌≡◌ {A = ℕ} 0 1 = cc in absurd (omega arith)
    go (some r) e k = let y : line_of r ≡ m = cc in (r, e, y)

-- A record predicts what its line does.
pub predict-line : (r : Record) (m : Line) (o : ℕ) → line_of r ≡ m → predict r o ≡ line_predict m o
unfolding predict line_predict
predict-line r m o e = ap (λ (x : Line). line_predict x o) e
