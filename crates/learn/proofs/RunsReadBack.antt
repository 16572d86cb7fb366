-- What is read back at place j: run j's record, and its number of pages. Assumes nothing.
use mathlib.Core.Path.{◌≡◌, refl, ap, ◌∙◌}
use mathlib.Core.List.{List, [], ◌∷◌}
use Prim.Native.Nat.{ℕ, zero, suc, ◌+◌, ◌≤◌, ◌<◌}
use native.Mathlib.Omega.{arith}
use lib.ListN.{length, get_or}
use Rattle.model.specs.Lists.{store}
use Rattle.model.specs.Learning.{Run}
use Rattle.model.proofs.Lists.{get_or-store}
use Rattle.record.specs.declared.Record.{Record}
use Rattle.record.specs.Read.{bare}
use Rattle.learn.specs.Runs.{records, counts}

records_at : (rs : List Run) (j : ℕ) (d : Run) (z : Record) → j < length rs → get_or (records rs) j z ≡ bare (get_or rs j d).learned
unfolding records
records_at [] j d z h = absurd (let q : ⊥ = omega arith in q)
records_at (r ∷ rs) zero d z h = refl
records_at (r ∷ rs) (suc j) d z h = records_at rs j d z (omega arith)

records-length : (rs : List Run) → length (records rs) ≡ length rs
unfolding records
records-length [] = refl
records-length (r ∷ rs) = ap suc (records-length rs)

-- Run j's record.
pub record_at_lem : (s : List Record) (rs : List Run) (j : ℕ) (d : Run) (z : Record) → j < length rs → length rs ≤ length s → get_or (store s 0 (records rs)) j z ≡ bare (get_or rs j d).learned
record_at_lem s rs j d z h k =
    let e : 0 + j ≡ j = omega arith in
    (rw e at (get_or-store s 0 (records rs) j z (omega (arith, records-length rs)) (omega arith))) ∙ records_at rs j d z h

counts_at : (rs : List Run) (j : ℕ) (d : Run) → j < length rs → get_or (counts rs) j 0 ≡ (get_or rs j d).taken
unfolding counts
counts_at [] j d h = absurd (let q : ⊥ = omega arith in q)
counts_at (r ∷ rs) zero d h = refl
counts_at (r ∷ rs) (suc j) d h = counts_at rs j d (omega arith)

counts-length : (rs : List Run) → length (counts rs) ≡ length rs
unfolding counts
counts-length [] = refl
counts-length (r ∷ rs) = ap suc (counts-length rs)

-- How many pages run j takes.
pub count_at : (s : List ℕ) (rs : List Run) (j : ℕ) (d : Run) → j < length rs → length rs ≤ length s → get_or (store s 0 (counts rs)) j 0 ≡ (get_or rs j d).taken
count_at s rs j d h k =
    let z : 0 + j ≡ j = omega arith in
    (rw z at (get_or-store s 0 (counts rs) j 0 (omega (arith, counts-length rs)) (omega arith))) ∙ counts_at rs j d h
