-- A pass over offsets that names each one's owner anew, offset by offset: those before o have it, the others are as before. Assumes nothing.
use mathlib.Core.Path.{◌≡◌, refl, sym, ap, ◌∙◌}
use mathlib.Core.List.{List}
use mathlib.Core.Bool.{Bool, true, false}
use Prim.Native.Nat.{ℕ, ◌+◌, ◌≤◌, ◌<◌}
use native.Mathlib.Omega.{arith}
use lib.Dec.{leb, ltb, eqb}
use borrow.Author.Tests.{eqb-true, eqb-false, leb-true, leb-false, ltb-true, ltb-false}
use Rattle.model.proofs.Bools.{is_false}
use Rattle.record.specs.Scan.{masked}
use Rattle.group.specs.Layout.{offsets, slots_of, owner_of}
use Rattle.slots.specs.Owners.{either, taken_by}
use Rattle.slots.specs.View.{Room, Shows, Owned, OwnerPut, OwnersPut}

-- the owners of the offsets from `first` to before o are new, those up to `end` are left
pub record Passing (f : ℕ → ℕ → ℕ) (s t : List ℕ) (first end o : ℕ) : Type 0 where
  pub put : OwnersPut f s t first o
  pub low : first ≤ o
  pub high : o ≤ end
  pub owned : Owned t

module _ (f : ℕ → ℕ → ℕ) (s : List ℕ) (first end : ℕ) where
  pub pass_start : Room s → Owned s → first ≤ end → Passing f s s first end first
  pass_start room on h = record {
    put = record { room = room; slots = refl; flag = refl; there = λ k l m. absurd (let z : ⊥ = omega arith in z); others = λ k n. refl };
    low = omega arith;
    high = h;
    owned = on;
  }

  module _ (t : List ℕ) (o : ℕ) (so : Passing f s t first end o) where
    pub pass_turn : (u : List ℕ) (w x : ℕ) → o < end → w ≡ owner_of t o → x ≡ f o w → OwnerPut t u o x → Passing f s u first end (o + 1)
    pass_turn u w x h d e r = record {
      put = record {
        room = r.room;
        slots = r.slots ∙ put.slots;
        flag = r.flag ∙ put.flag;
        there = λ k l m. go k l m (eqb k o) refl;
        others = λ k n. r.others k (λ i. n (omega (arith, so.low)) (omega arith)) ∙ put.others k (λ l m. n l (omega arith));
      };
      low = omega (arith, so.low);
      high = omega arith;
      owned = omega (arith, so.owned, r.flag);
    }
      where
        put : OwnersPut f s t first o
        put = so.put

        was : owner_of t o ≡ owner_of s o
        was = put.others o (λ l m. omega arith)

        go : (k : ℕ) → first ≤ k → k < o + 1 → (b : Bool) → eqb k o ≡ b → owner_of u k ≡ f k (owner_of s k)
        go k l m true i = let j : k ≡ o = eqb-true k o i in rw j (r.there ∙ e ∙ ap (f o) (d ∙ was))
        go k l m false i =
            let n : k ≡ o → ⊥ = eqb-false k o i in
            r.others k n ∙ put.there k l (omega arith)

    pub pass_end : end ≤ o → OwnersPut f s t first end
    pass_end h = let e : end ≡ o = omega (arith, so.high) in rw e so.put

-- a pass over part of the offsets is one over all, where it would leave the others as they are
pub all_put : (f : ℕ → ℕ → ℕ) (s t : List ℕ) {first end : ℕ} → OwnersPut f s t first end → ((o : ℕ) → o < offsets → (first ≤ o → o < end → ⊥) → f o (owner_of s o) ≡ owner_of s o)
    → (o : ℕ) → o < offsets → owner_of t o ≡ f o (owner_of s o)
all_put f s t {first} {end} put same o h = go (leb first o) (ltb o end) refl refl
  where
    go : (a b : Bool) → leb first o ≡ a → ltb o end ≡ b → owner_of t o ≡ f o (owner_of s o)
    go true true i j = put.there o (leb-true _ _ i) (ltb-true _ _ j)
    go false b i j = let n : first ≤ o → o < end → ⊥ = λ l m. omega (arith, leb-false first o i) in put.others o n ∙ sym (same o h n)
    go true false i j = let n : first ≤ o → o < end → ⊥ = λ l m. omega (arith, ltb-false o end j) in put.others o n ∙ sym (same o h n)

-- the offsets of a mask, which lie in a range, are given to a record
pub given-shows : (s t u m : List ℕ) (start end : ℕ) → Shows t (slots_of s) (owner_of s) → OwnersPut (λ o w. taken_by start (masked m o) w) t u start end
    → ((o : ℕ) → o < offsets → masked m o ≡ true → (start ≤ o) × (o < end)) → Shows u (slots_of s) (λ o. taken_by start (masked m o) (owner_of s o))
unfolding taken_by either
given-shows s t u m start end opened put inside = (
  put.room.0,
  put.slots ∙ opened.1,
  λ o h. all_put _ t u put (λ k i n. rw (untaken k i n, taken_by, either)) o h ∙ ap (taken_by start (masked m o)) (opened.2 o h),
)
  where
    untaken : (o : ℕ) → o < offsets → (start ≤ o → o < end → ⊥) → masked m o ≡ false
    untaken o h n = is_false (masked m o) (λ e. n (inside o h e).0 (inside o h e).1)
