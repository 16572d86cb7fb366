-- The blocks that are not kept, by an array of 1s in which theirs are 0. Assumes nothing.
use mathlib.Core.Path.{◌≡◌, refl, sym, ◌∙◌, ap}
use mathlib.Core.List.{List, [], ◌∷◌}
use mathlib.Core.Logic.{◌≢◌}
use mathlib.Core.Bool.{Bool, true, false, ◌||◌, or-true}
use Prim.Native.Nat.{ℕ, zero, suc, ◌+◌, ◌*◌, ◌/◌, ◌≤◌, ◌<◌, min}
use native.Mathlib.Omega.{arith}
use native.Mathlib.Nat.{mul-le-mul, mul-div_cancel, div-lt_iff_lt-mul}
use lib.Dec.{eqb, ltb}
use lib.ListN.{length, get_or, set, drop, drop_of_length-le, replicate, get_or-replicate}
use lib.Seq.{get_or-set_other}
use borrow.Author.Tests.{ltb-true, ltb-false, eqb-true, eqb-false, eq-eqb, ne_eqb}
use Rattle.model.specs.Lists.{all, elem}
use Rattle.model.specs.Device.{Device, within_limits}
use Rattle.model.proofs.Bools.{and_l, and_r}
use Rattle.model.proofs.Lists.{elem_here}
use Rattle.model.proofs.Limits.{limits}
use Rattle.calls.specs.PageMap.{clear_counts}
use Rattle.sorting.proofs.SortStores.{drop_next}
use Rattle.plain.specs.Table.{no_page}
use Rattle.plain.proofs.Invariant.{counted}
use Rattle.plaincalls.specs.Passes.{is_moved}

-- what clearing the blocks at i and behind leaves now is what clearing all leaves of the start: with one more cleared, ..
pub clear_next : (ks l₀ l : List ℕ) (i : ℕ) → clear_counts ks l₀ ≡ clear_counts (drop i ks) l → i < length ks → clear_counts ks l₀ ≡ clear_counts (drop (i + 1) ks) (set l (get_or ks i 0) 0)
unfolding clear_counts
clear_next ks l₀ l i e h = e ∙ ap (λ (js : List ℕ). clear_counts js l) (drop_next ks i h)

-- .. and in the end.
pub clear_all : (ks l₀ l : List ℕ) (i : ℕ) → clear_counts ks l₀ ≡ clear_counts (drop i ks) l → length ks ≤ i → l ≡ clear_counts ks l₀
unfolding clear_counts
clear_all ks l₀ l i e h = sym (e ∙ ap (λ (js : List ℕ). clear_counts js l) (drop_of_length-le ks h))

-- 0 stands where it was put
set-zero : (l : List ℕ) (k : ℕ) → get_or (set l k 0) k 0 ≡ 0
set-zero [] k = refl
set-zero (x ∷ l) zero = refl
set-zero (x ∷ l) (suc k) = set-zero l k

elem_other : (k j : ℕ) (ks : List ℕ) → k ≢ j → elem k (j ∷ ks) ≡ elem k ks
unfolding elem
elem_other k j ks n = rw (ne_eqb k j n, elem)

elem_first : (k j : ℕ) (ks : List ℕ) → k ≡ j → elem k (j ∷ ks) ≡ true
elem_first k j ks e = ap (λ (i : ℕ). elem i (j ∷ ks)) e ∙ elem_here j ks

elem_none : (k : ℕ) → elem k [] ≡ false
unfolding elem
elem_none k = refl

-- 0 is read for a block that was cleared, and where it was before
cleared_test : (ks l : List ℕ) (k : ℕ) → eqb (get_or (clear_counts ks l) k 0) 0 ≡ (elem k ks || eqb (get_or l k 0) 0)
unfolding clear_counts
cleared_test [] l k = rw (elem_none k)
cleared_test (j ∷ ks) l k = go (eqb k j) refl (cleared_test ks (set l j 0) k)
  where
    go : (t : Bool) → eqb k j ≡ t → eqb (get_or (clear_counts ks (set l j 0)) k 0) 0 ≡ (elem k ks || eqb (get_or (set l j 0) k 0) 0)
        → eqb (get_or (clear_counts ks (set l j 0)) k 0) 0 ≡ (elem k (j ∷ ks) || eqb (get_or l k 0) 0)
    go true q ih =
        let e : k ≡ j = eqb-true k j q in
        let z : eqb (get_or (set l j 0) k 0) 0 ≡ true = eq-eqb _ 0 (ap (λ (i : ℕ). get_or (set l j 0) i 0) e ∙ set-zero l j) in
        ih ∙ ap (λ (t : Bool). elem k ks || t) z ∙ or-true (elem k ks) ∙ sym (ap (λ (t : Bool). t || eqb (get_or l k 0) 0) (elem_first k j ks e))
    go false q ih =
        let n : k ≢ j = eqb-false k j q in
        ih ∙ ap (λ (x : ℕ). elem k ks || eqb x 0) (get_or-set_other l j k 0 0 n) ∙ sym (ap (λ (t : Bool). t || eqb (get_or l k 0) 0) (elem_other k j ks n))

or_nothing : (a t : Bool) → t ≡ false → (a || t) ≡ a
or_nothing true t e = refl
or_nothing false t e = e

-- An entry that names a page is moved if that lies in one of the blocks that were cleared; one that names none is not.
pub moved_in : (n : ℕ) (ks : List ℕ) (b e : ℕ) → e ≢ no_page → e / b < n → is_moved (clear_counts ks (replicate n 1)) b e ≡ elem (e / b) ks
unfolding is_moved
moved_in n ks b e u h =
    let one : ◌≡◌ {A = ℕ} (get_or (replicate n 1) (e / b) 0) 1 = get_or-replicate n (e / b) 1 0 h in
    rw (ne_eqb e no_page u, is_moved) (cleared_test ks (replicate n 1) (e / b)
    ∙ or_nothing (elem (e / b) ks) _ (ne_eqb (get_or (replicate n 1) (e / b) 0) 0 (λ z. omega (arith, z, one))))

pub unmoved : (kept : List ℕ) (b : ℕ) → is_moved kept b no_page ≡ false
unfolding is_moved
unmoved kept b = rw (eq-eqb no_page no_page refl, is_moved)

-- What stands behind all blocks that are cleared stays.
behind-cleared : (ks l : List ℕ) (k : ℕ) → all (λ j. ltb j k) ks ≡ true → get_or (clear_counts ks l) k 0 ≡ get_or l k 0
unfolding clear_counts all
behind-cleared [] l k h = refl
behind-cleared (j ∷ ks) l k h =
    let n : k ≢ j = (λ e. omega (arith, ltb-true j k (and_l (ltb j k) (all (λ i. ltb i k) ks) h), e)) in
    behind-cleared ks (set l j 0) k (and_r (ltb j k) (all (λ i. ltb i k) ks) h) ∙ get_or-set_other l j k 0 0 n

pub one_behind : (n : ℕ) (ks : List ℕ) (k : ℕ) (kept : List ℕ) → k < n → all (λ j. ltb j k) ks ≡ true → kept ≡ clear_counts ks (replicate n 1) → get_or kept k 0 ≡ 1
one_behind n ks k kept h a e = ap (λ (l : List ℕ). get_or l k 0) e ∙ behind-cleared ks (replicate n 1) k a ∙ get_or-replicate n k 1 0 h

-- So the code answers it, where the block behind the device's last is kept: page q is looked up for entry e.
module _ (d : Device) (w : within_limits d ≡ true) (kept : List ℕ) (one : get_or kept d.M 0 ≡ 1) (e q : ℕ) where
  pub record Looked : Type 0 where
    pub small : q ≤ 1048576
    pub inside : q / d.B < length kept
    pub answers : eqb (get_or kept (q / d.B) 0) 0 ≡ is_moved kept d.B e

  some : 0 < d.B
  some = omega (arith, (limits d w).least_B)

  few : d.M * d.B ≤ 1048576
  few = mul-le-mul (limits d w).most_M (limits d w).most_B

  room : d.M < length kept
  room = counted kept d.M (omega (arith, one))

  -- It is the entry, where that names a page ..
  looked-page : e < d.M * d.B → q ≡ e → Looked
  unfolding is_moved no_page
  looked-page h z =
      let k : e / d.B < d.M = (div-lt_iff_lt-mul some).1 h in
      let n : e ≢ no_page = (λ y. omega (arith, y, h, few)) in
      rw z (record { small = omega (arith, h, few); inside = omega (arith, k, room); answers = rw (ne_eqb e no_page n, is_moved) refl })

  -- .. and else the one behind the last.
  module _ (names : e ≢ no_page → e / d.B < d.M) (h : d.M * d.B ≤ e) where
    named_none : e ≡ no_page
    named_none = go (eqb e no_page) refl
      where
        go : (t : Bool) → eqb e no_page ≡ t → e ≡ no_page
        go true t = eqb-true e no_page t
        go false t = absurd (omega (arith, h, (div-lt_iff_lt-mul some).0 (names (eqb-false e no_page t))))

    looked-past : q ≡ d.M * d.B → Looked
    looked-past z =
        let k : d.M * d.B / d.B ≡ d.M = mul-div_cancel d.M some in
        let f : eqb (get_or kept d.M 0) 0 ≡ false = ne_eqb (get_or kept d.M 0) 0 (λ y. omega (arith, y, one)) in
        record {
          small = omega (arith, z, few);
          inside = rw (z, k) room;
          answers = rw (z, k) (f ∙ sym (ap (is_moved kept d.B) named_none ∙ unmoved kept d.B));
        }

  -- So the lower of both is looked up.
  pub looked-lower : (e ≢ no_page → e / d.B < d.M) → q ≡ min e (d.M * d.B) → Looked
  looked-lower names z = go (ltb e (d.M * d.B)) refl
    where
      go : (t : Bool) → ltb e (d.M * d.B) ≡ t → Looked
      go true t = let h : e < d.M * d.B = ltb-true e (d.M * d.B) t in looked-page h (omega arith)
      go false t = let h : d.M * d.B ≤ e = ltb-false e (d.M * d.B) t in looked-past names h (omega arith)
