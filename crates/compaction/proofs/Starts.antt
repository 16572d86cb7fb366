-- What shrinking by all records above leaves starts at offsets of its own: a record's first is a member that none above has. Assumes nothing.
use mathlib.Core.Path.{◌≡◌, sym, ◌∙◌, ap}
use mathlib.Core.List.{List, [], ◌∷◌}
use mathlib.Core.Option.{Option, none, some}
use mathlib.Core.Bool.{true≢false, false}
use Prim.Native.Nat.{ℕ, zero, suc, ◌<◌}
use native.Mathlib.Omega.{arith}
use lib.ListN.{length, get_or}
use Rattle.model.specs.Record.{Record, member}
use Rattle.model.specs.Levels.{shrink, keep, member_of_any, shrink_all}
use Rattle.model.proofs.Bools.{or_none}
use Rattle.model.proofs.Shrink.{Outcome, gone, left, shrink-outcome}
use Rattle.compaction.specs.Levels.{point}

-- the start of record i
abbrev pub start_at : List Record → ℕ → ℕ
start_at l i = (get_or l i (point 0)).start

-- no record above has the starts of l as members, and no two are alike
record Fresh (above l : List Record) : Type 0 where
  apart : (i : ℕ) → i < length l → member_of_any above (start_at l i) ≡ false
  differ : (i j : ℕ) → i < j → j < length l → start_at l i ≡ start_at l j → ⊥

fresh : (above l : List Record) → Fresh above (shrink_all above l)
unfolding shrink_all keep member_of_any
fresh above [] = record { apart = λ i h. absurd (omega arith); differ = λ i j h k e. omega arith }
fresh above (r ∷ l) = go (shrink (member_of_any above) r) (shrink-outcome (member_of_any above) r) (shrink_all (r ∷ above) l) (fresh (r ∷ above) l)
  where
    go : (x : Option Record) → Outcome (member_of_any above) r x → (k : List Record) → Fresh (r ∷ above) k → Fresh above (keep x k)
    go none (gone n) k f = record { apart = λ i h. (or_none (member r (start_at k i)) _ (f.apart i h)).1; differ = f.differ }
    go (some s) (left i) k f = record { apart = apart'; differ = differ' }
      where
        apart' : (j : ℕ) → j < suc (length k) → member_of_any above (start_at (s ∷ k) j) ≡ false
        apart' zero h = i.first.1
        apart' (suc j) h = (or_none (member r (start_at k j)) _ (f.apart j (omega arith))).1

        differ' : (j m : ℕ) → j < m → m < suc (length k) → start_at (s ∷ k) j ≡ start_at (s ∷ k) m → ⊥
        differ' j zero h q e = omega arith
        differ' zero (suc m) h q e = true≢false (sym i.first.0 ∙ ap (member r) e ∙ (or_none (member r (start_at k m)) _ (f.apart m (omega arith))).0)
        differ' (suc j) (suc m) h q e = f.differ j m (omega arith) (omega arith) e

-- No two start alike.
pub starts_differ : (above l : List Record) (i j : ℕ) → i < j → j < length (shrink_all above l) → start_at (shrink_all above l) i ≡ start_at (shrink_all above l) j → ⊥
starts_differ above l = (fresh above l).differ
