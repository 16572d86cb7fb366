-- How many records insertion, compaction and taking in leave in a group. Assumes nothing.
use mathlib.Core.Path.{◌≡◌, refl, sym, ◌∙◌, ap}
use mathlib.Core.List.{List, [], ◌∷◌, flatten}
use mathlib.Core.Option.{Option, none, some}
use mathlib.Core.Logic.{◌⊎◌, inl, inr}
use mathlib.Core.Bool.{Bool, true≢false, true, false}
use Prim.Native.Nat.{ℕ, suc, ◌+◌, ◌≤◌, ◌<◌}
use native.Mathlib.Omega.{arith}
use lib.Dec.{ltb}
use lib.ListN.{length}
use Rattle.model.specs.Lists.{elem, distinct}
use Rattle.model.specs.Record.{Record, member}
use Rattle.model.specs.Levels.{Group, listing, record_count, shrink, keep, insert, insert_all, member_of_any, shrink_all, put_back, compact, group_limit, take_in}
use Rattle.model.specs.Totals.{total}
use Rattle.model.proofs.Bools.{is_false, or_none}
use Rattle.model.proofs.Lists.{elem_cons, no_elem}
use Rattle.model.proofs.Shrink.{Outcome, gone, left, shrink-outcome}
use Rattle.model.proofs.Counting.{distinct_cons, pigeonhole}
use Rattle.model.proofs.Total.{Lessens, total-put_back, total-insert_all, total-compact}

-- each record counts
each : Record → ℕ
each r = 1

each_lessens : Lessens each
unfolding each
each_lessens lost r s e = omega arith

length-total : (l : List Record) → total each l ≡ length l
unfolding total each
length-total [] = refl
length-total (r ∷ l) = omega (arith, length-total l)

-- Insertion of records adds at most as many.
pub insert_all-count : (rs : List Record) (g : Group) → record_count (insert_all rs g) ≤ record_count g + length rs
unfolding record_count
insert_all-count rs g =
    omega (arith, total-insert_all each each_lessens rs g, length-total (listing (insert_all rs g)), length-total rs, length-total (listing g))

-- Insertion of a record adds at most one.
pub insert-count : (r : Record) (g : Group) → record_count (insert r g) ≤ suc (record_count g)
unfolding insert_all
insert-count r g = omega (arith, insert_all-count (r ∷ []) g)

-- Compaction adds none, ..
compact-adds_none : (g : Group) → record_count (compact g) ≤ record_count g
unfolding record_count
compact-adds_none g = omega (arith, total-compact each each_lessens g, length-total (listing (compact g)), length-total (listing g))

-- .. so records taken in add at most as many, too.
pub take_in-count : (rs : List Record) (g : Group) → record_count (take_in rs g) ≤ record_count g + length rs
unfolding take_in
take_in-count rs g = go (ltb group_limit (record_count g + length rs)) refl
  where
    go : (t : Bool) → ltb group_limit (record_count g + length rs) ≡ t → record_count (take_in rs g) ≤ record_count g + length rs
    go true e = rw (e, take_in) (omega (arith, insert_all-count rs (compact g), compact-adds_none g))
    go false e = rw (e, take_in) (insert_all-count rs g)

-- the records' first offsets
starts : List Record → List ℕ
starts [] = []
starts (r ∷ l) = r.start ∷ starts l

length-starts : (l : List Record) → length (starts l) ≡ length l
unfolding starts
length-starts [] = refl
length-starts (r ∷ l) = ap suc (length-starts l)

-- the starts of records shrunk under those above: below 256, no members of those above, distinct
record Fresh (above : List Record) (xs : List ℕ) : Type 0 where
  below : (o : ℕ) → elem o xs ≡ true → o < 256
  apart : (o : ℕ) → elem o xs ≡ true → member_of_any above o ≡ false
  once : distinct xs ≡ true

fresh : (above l : List Record) → Fresh above (starts (shrink_all above l))
unfolding shrink_all starts keep distinct member_of_any
fresh above [] = record { below = λ o h. no_elem o h; apart = λ o h. no_elem o h; once = refl }
fresh above (r ∷ l) = go (shrink (member_of_any above) r) (shrink-outcome (member_of_any above) r) (shrink_all (r ∷ above) l) (fresh (r ∷ above) l)
  where
    go : (x : Option Record) → Outcome (member_of_any above) r x → (k : List Record) → Fresh (r ∷ above) (starts k) → Fresh above (starts (keep x k))
    go none (gone n) k f = record {
      below = f.below;
      apart = λ o h. (or_none (member r o) (member_of_any above o) (f.apart o h)).1;
      once = f.once;
    }
    go (some s) (left i) k f = record {
      below = λ o h. below' o (elem_cons o s.start (starts k) h);
      apart = λ o h. apart' o (elem_cons o s.start (starts k) h);
      once = distinct_cons s.start (starts k) (is_false _ (λ h. true≢false (sym i.first.0 ∙ (or_none _ _ (f.apart s.start h)).0))) f.once;
    }
      where
        below' : (o : ℕ) → (o ≡ s.start) ⊎ (elem o (starts k) ≡ true) → o < 256
        below' o (inl q) = omega (arith, i.first.2)
        below' o (inr q) = f.below o q

        apart' : (o : ℕ) → (o ≡ s.start) ⊎ (elem o (starts k) ≡ true) → member_of_any above o ≡ false
        apart' o (inl q) = ap (member_of_any above) q ∙ i.first.1
        apart' o (inr q) = (or_none (member r o) (member_of_any above o) (f.apart o q)).1

-- Compaction leaves at most 256 records: each starts at an offset of its own.
pub compact-count : (g : Group) → record_count (compact g) ≤ 256
unfolding record_count compact total flatten
compact-count g =
    let l : List Record = shrink_all [] (listing g) in
    let f : Fresh [] (starts l) = fresh [] (listing g) in
    omega (
      arith,
      length-total (listing (put_back l [])),
      total-put_back each l [],
      length-total l,
      length-starts l,
      pigeonhole 256 (starts l) f.once f.below,
    )
