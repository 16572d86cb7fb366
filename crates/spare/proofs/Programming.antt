-- The loops that copy entries and program pages: a turn leaves what is still to be written. Assumes nothing.
use mathlib.Core.Path.{◌≡◌, refl, sym, ◌∙◌, ap}
use mathlib.Core.List.{List, ◌++◌}
use mathlib.Core.Bool.{Bool, true, false}
use Prim.Native.Nat.{ℕ, zero, suc, ◌+◌, ◌*◌, ◌-◌, ◌≤◌, ◌<◌}
use native.Mathlib.Omega.{arith}
use lib.Dec.{ltb}
use lib.ListN.{length, get_or, set, take, drop, length-drop, length-take}
use lib.Seq.{drop-cons, take_all, take-nil, take-append-le, take-append-add, take-take, length-take-le}
use borrow.Author.Tests.{ltb-true, ltb-false}
use Rattle.model.specs.Lists.{store}
use Rattle.model.proofs.Lists.{store_nil, store_first, store_append}
use Rattle.spare.specs.Around.{rows, Programmed}

-- the copy of m elements of l from place i on to place at begins, ..
pub copy_start : (s l : List ℕ) (at i m : ℕ) → store s at (take m (drop i l)) ≡ store s (at + 0) (take (m - 0) (drop (i + 0) l))
copy_start s l at i m =
    let a : at + 0 ≡ at = omega arith in
    let b : m - 0 ≡ m = omega arith in
    let c : i + 0 ≡ i = omega arith in
    rw (a, b, c) refl

-- .. is at element j, ..
pub copy-turn : (s l : List ℕ) (at i m j : ℕ) → i + m ≤ length l → j < m → store s (at + j) (take (m - j) (drop (i + j) l)) ≡ store (set s (at + j) (get_or l (i + j) 0)) (at + (j + 1)) (take (m - (j + 1)) (drop (i + (j + 1)) l))
copy-turn s l at i m j h y =
    let a : at + (j + 1) ≡ suc (at + j) = omega arith in
    let b : m - j ≡ suc (m - (j + 1)) = omega arith in
    let c : i + (j + 1) ≡ suc (i + j) = omega arith in
    let h' : i + j < length l = omega arith in
    rw (a, b, c, drop-cons l (i + j) 0 h') (store_first s (at + j) (get_or l (i + j) 0) (take (m - (j + 1)) (drop (suc (i + j)) l)))

-- .. and ends
pub copy-end : (s l : List ℕ) (at i m j : ℕ) → m ≤ j → store s (at + j) (take (m - j) (drop (i + j) l)) ≡ s
copy-end s l at i m j h = let b : m - j ≡ 0 = omega arith in rw b (store_nil s (at + j))

-- Of us and vs, one behind the other, as many are written as may be: those of us, then of vs as many as may be after them.
pub stopped_append : (s : List ℕ) (a stop : ℕ) (us vs : List ℕ) → store s a (take stop (us ++ vs)) ≡ store (store s a (take stop us)) (a + length us) (take (stop - length us) vs)
stopped_append s a stop us vs = go (ltb stop (length us)) refl
  where
    go : (t : Bool) → ltb stop (length us) ≡ t → store s a (take stop (us ++ vs)) ≡ store (store s a (take stop us)) (a + length us) (take (stop - length us) vs)
    go true h =
        let l : stop < length us = ltb-true stop (length us) h in
        let none : stop - length us ≡ 0 = omega arith in
        rw (take-append-le stop us vs (omega arith), none) (sym (store_nil (store s a (take stop us)) (a + length us)))
    go false h =
        let l : length us ≤ stop = ltb-false stop (length us) h in
        let more : stop ≡ length us + (stop - length us) = omega arith in
        ap (λ (n : ℕ). store s a (take n (us ++ vs))) more ∙ rw (take-append-add us vs (stop - length us), store_append s a us, take_all stop us l) refl

-- m entries at most, of which fewer may be written, ..
pub put_some : (s l : List ℕ) (at left m : ℕ) → left < m → (0 ≡ left - m) × (store s at (take left l) ≡ store s at (take left (take m l)))
put_some s l at left m h = (omega arith, rw (take-take left m l (omega arith)) refl)

-- .. or all
pub put_all : (s l : List ℕ) (at left m : ℕ) → m ≤ left → store s at (take m l) ≡ store s at (take left (take m l))
put_all s l at left m h = rw (take_all left (take m l) (omega (arith, length-take m l))) refl

-- What is left to write from page i on, where so many more may be written; lent is what there was at the first page.
pub record Left (around : List ℕ) (pages n a stop : ℕ) (lent now : List ℕ) (left i : ℕ) : Type 0 where
  pub width : pages + n ≤ length around + 1
  pub before : i ≤ pages
  pub count : left ≡ stop - i * n
  pub same : store lent a (take stop (rows around n 0 pages)) ≡ store now (a + i * n) (take left (rows around n i (pages - i)))

pub left-start : (around : List ℕ) (pages n a stop : ℕ) (lent : List ℕ) → pages + n ≤ length around + 1 → Left around pages n a stop lent lent stop 0
left-start around pages n a stop lent h =
    let z : pages - 0 ≡ pages = omega arith in
    let e : a + 0 * n ≡ a = omega arith in
    record { width = h; before = omega arith; count = omega arith; same = rw (z, e) refl }

module _ {around : List ℕ} {pages n a stop : ℕ} {lent s : List ℕ} {left i : ℕ} (v : Left around pages n a stop lent s left i) where
  -- a page is written
  pub left-turn : (u : List ℕ) (r : ℕ) → i < pages → r ≡ left - n → u ≡ store s (a + i * n) (take left (take n (drop i around))) → Left around pages n a stop lent u r (i + 1)
  unfolding rows
  left-turn u r h c y =
      let f : i + 1 ≡ suc i = omega arith in
      let m : pages - i ≡ suc (pages - suc i) = omega arith in
      let next : a + suc i * n ≡ a + i * n + n = omega arith in
      let long : length (take n (drop i around)) ≡ n = length-take-le n (drop i around) (rw length-drop (omega (arith, v.width))) in
      let turn : store s (a + i * n) (take left (rows around n i (pages - i))) ≡ store u (a + i * n + n) (take r (rows around n (suc i) (pages - suc i))) =
      rw (m, stopped_append s (a + i * n) left (take n (drop i around)), long, y, c) refl in
      record {
        width = v.width;
        before = omega arith;
        count = omega (arith, v.count, c);
        same = v.same ∙ rw (f, next) turn;
      }

  -- every page is written
  pub left_end : pages ≤ i → Programmed around pages n a stop lent s left
  unfolding rows
  left_end h =
      let f : i ≡ pages = omega (arith, v.before) in
      let z : pages - i ≡ 0 = omega arith in
      (rw (← f) v.count, sym (v.same ∙ rw (z, take-nil) (store_nil s (a + i * n))))

-- where the number of entries a page is known, its pages have as much room (what an arm asks, which the check finds alone), ..
pub at_room : (pages n m a l : ℕ) → n ≡ m → a + pages * n ≤ l → a + pages * m ≤ l
at_room pages n m a l h p = rw (← h) p

-- .. as many may be written after them, ..
pub at_count : (pages n m stop r : ℕ) → n ≡ m → r ≡ stop - pages * m → r ≡ stop - pages * n
at_count pages n m stop r h p = rw h p

-- .. and the same are written
pub at_width : (around : List ℕ) (pages n m a stop : ℕ) (lent left : List ℕ) → n ≡ m
    → left ≡ store lent a (take stop (rows around m 0 pages)) → left ≡ store lent a (take stop (rows around n 0 pages))
at_width around pages n m a stop lent left h p = rw h p

-- One entry a page: how many may be written after them, ..
pub single-count : (pages n stop r : ℕ) → n ≡ 1 → r ≡ stop - pages → r ≡ stop - pages * n
single-count pages n stop r h p = at_count pages n 1 stop r h (omega (arith, p))

singles : (around : List ℕ) (i c : ℕ) → i + c ≤ length around → rows around 1 i c ≡ take c (drop i around)
unfolding rows
singles around i zero h = refl
singles around i (suc c) h =
    let l : i < length around = omega arith in
    rw (drop-cons around i 0 l, singles around (suc i) c (omega arith)) refl

-- .. and they are what lies around, in one piece
pub single-width : (around : List ℕ) (pages n a stop : ℕ) (lent left : List ℕ) → n ≡ 1 → pages + n ≤ length around + 1
    → left ≡ store lent a (take stop (take pages (drop 0 around))) → left ≡ store lent a (take stop (rows around n 0 pages))
single-width around pages n a stop lent left h w p =
    at_width around pages n 1 a stop lent left h (rw (singles around 0 pages (omega arith)) p)
