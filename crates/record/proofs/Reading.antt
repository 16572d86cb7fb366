-- What an answer of shrinking says of the record that the struct stands for. Assumes nothing.
use mathlib.Core.Path.{◌≡◌}
use mathlib.Core.List.{List, [], ◌∷◌}
use mathlib.Core.Option.{Option, map}
use mathlib.Core.Bool.{Bool, true, not, ◌&&◌}
use Prim.Native.Nat.{ℕ}
use Rattle.model.specs.Lists.{select}
use Rattle.model.specs.Record as model
use Rattle.model.specs.Record.{kind, is_approximate, member}
use Rattle.model.specs.Levels.{shrunk_to, shrunk_to_any, shrink}
use Rattle.record.specs.declared.Record.{Record}
use Rattle.record.specs.Read.{as_record, bare}

-- what is left of an approximate record, from its four numbers: it owns what it keeps
module _ (lost : ℕ → Bool) (r : model.Record) (x : Option Record) (is : x ≡ map bare (shrink lost r)) where
  pub approximate-left : is_approximate (kind r) ≡ true → shrink lost r ≡ map (λ s. as_record s (select (λ o. member r o && not (lost o)) 256 0)) x
  unfolding shrink shrunk_to_any shrunk_to
  approximate-left h = go (select (λ o. member r o && not (lost o)) 256 0) is
    where
      go : (l : List ℕ) → x ≡ map bare (shrunk_to_any r l) → shrunk_to_any r l ≡ map (λ s. as_record s l) x
      go [] e = rw e
      go (y ∷ l) e = rw (e, h, shrunk_to)
