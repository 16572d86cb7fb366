-- A group that takes in learned records has them over what was met before, compacted first or not; so does each group. Assumes nothing.
use mathlib.Core.Path.{◌≡◌, refl, ◌∙◌, ap}
use mathlib.Core.List.{List, [], ◌∷◌}
use mathlib.Core.Bool.{Bool, true, false}
use Prim.Native.Nat.{ℕ, zero, suc, ◌+◌, ◌<◌}
use native.Mathlib.Omega.{arith}
use lib.Dec.{ltb}
use lib.ListN.{length, get_or}
use Rattle.model.specs.Record.{Record}
use Rattle.model.specs.Learning.{Run, records_for}
use Rattle.model.specs.Levels.{Group, listing, record_count, compact, group_limit, take_in, take_in_all}
use Rattle.model.proofs.Line.{met, overlay}
use Rattle.model.proofs.Order.{Chains, AllWithin, compact-chains}
use Rattle.model.proofs.Insertion.{insert_all-met}
use Rattle.model.proofs.Compaction.{compact-met}

-- Records taken in lie over what was met before.
pub take_in-met : (rs : List Record) (o : ℕ) → o < 256 → (g : Group) → AllWithin rs → Chains g → met o (listing (take_in rs g)) ≡ overlay o rs (met o (listing g))
unfolding take_in
take_in-met rs o b g w c = go (ltb group_limit (record_count g + length rs)) refl
  where
    go : (t : Bool) → ltb group_limit (record_count g + length rs) ≡ t → met o (listing (take_in rs g)) ≡ overlay o rs (met o (listing g))
    go true e = rw (e, take_in) (insert_all-met rs o b (compact g) w (compact-chains g c) ∙ ap (overlay o rs) (compact-met o b g c))
    go false e = rw (e, take_in) (insert_all-met rs o b g w c)

-- There are as many groups as before.
pub take_in_all-length : (k : ℕ) (rs : List Run) (gs : List Group) → length (take_in_all k rs gs) ≡ length gs
unfolding take_in_all
take_in_all-length k rs [] = refl
take_in_all-length k rs (g ∷ gs) = ap suc (take_in_all-length (suc k) rs gs)

-- Each group takes in its own records.
pub take_in_all_at : (k : ℕ) (rs : List Run) (gs : List Group) (i : ℕ) → i < length gs → get_or (take_in_all k rs gs) i [] ≡ take_in (records_for (k + i) rs) (get_or gs i [])
unfolding take_in_all
take_in_all_at k rs [] i h = absurd (omega arith)
take_in_all_at k rs (g ∷ gs) zero h = let e : k + 0 ≡ k = omega arith in rw e refl
take_in_all_at k rs (g ∷ gs) (suc i) h =
    let e : k + suc i ≡ suc k + i = omega arith in
    rw e (take_in_all_at (suc k) rs gs i (omega arith))
