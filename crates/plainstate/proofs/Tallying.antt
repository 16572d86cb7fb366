-- The tally and the number of marked pages, block after block. Assumes nothing.
use mathlib.Core.Path.{◌≡◌, refl, sym, ap, ap₂, ◌∙◌}
use mathlib.Core.List.{List, [], ◌∷◌}
use mathlib.Core.Bool.{Bool, true, false}
use Prim.Native.Nat.{ℕ, zero, suc, ◌+◌, ◌-◌, ◌*◌, ◌≤◌, ◌<◌}
use native.Mathlib.Omega.{arith}
use native.Mathlib.Numerals.{add-one}
use lib.Dec.{leb, eqb}
use lib.ListN.{length, get_or, set, drop, drop_of_length-le}
use borrow.Author.Tests.{eq-eqb, ne_eqb, leb-true, eqb-true, eqb-false}
use Rattle.model.specs.Lists.{all, select, store}
use Rattle.model.specs.Device.{Device, pages, first_page}
use Rattle.model.proofs.Limits.{limits}
use Rattle.model.proofs.Lists.{store_nil, store_first, store_append, each_all, elem-get_or}
use Rattle.sorting.proofs.SortStores.{drop_next}
use Rattle.choice.specs.Tally.{free_entry}
use Rattle.front.specs.Reading.{read_counts}
use Rattle.plainstate.specs.Reading.{read_table}
use Rattle.plainstate.specs.Shaped.{Shaped}
use Rattle.plainstate.specs.Bits.{counted_from}
use Rattle.plainstate.specs.Tally.{entry_for, entries_from}
use Rattle.plainstate.proofs.Sizes.{small, block-end}
use Rattle.plainstate.proofs.Shaping.{count_is, length-counts}
use Rattle.plainstate.proofs.Ones.{select_most}

-- a block's entry
pub free_entry_lem : (c r : ℕ) → c ≡ 0 → 257 ≡ entry_for c r
unfolding entry_for free_entry
free_entry_lem c r e = sym (rw (eq-eqb c 0 e, entry_for))

pub used-entry : (c r : ℕ) → (c ≡ 0 → ⊥) → r ≡ entry_for c r
unfolding entry_for
used-entry c r n = sym (rw (ne_eqb c 0 n, entry_for))

-- is stored where there is room
pub put_in_lem : (s : List ℕ) (i v : ℕ) → set s i v ≡ store s i (v ∷ [])
put_in_lem s i v = sym (store_first s i v [] ∙ store_nil (set s i v) (suc i))

set_out : (s : List ℕ) (i v : ℕ) → length s ≤ i → set s i v ≡ s
set_out [] i v h = refl
set_out (x ∷ s) zero v h = absurd (omega arith)
set_out (x ∷ s) (suc i) v h = ap (λ (l : List ℕ). x ∷ l) (set_out s i v (omega arith))

pub put-out : (s : List ℕ) (i v : ℕ) → length s ≤ i → s ≡ store s i (v ∷ [])
put-out s i v h = sym (set_out s i v h) ∙ put_in_lem s i v

-- The whole is what is left to store: one of it is stored.
pub stored_next : (whole s t : List ℕ) (k x : ℕ) (ws vs : List ℕ) → whole ≡ store s k ws → ws ≡ x ∷ vs → t ≡ store s k (x ∷ []) → whole ≡ store t (k + 1) vs
stored_next whole s t k x ws vs e h q =
    e ∙ ap (store s k) h ∙ store_append s k (x ∷ []) vs ∙ ap (λ (l : List ℕ). store l (k + 1) vs) (sym q)

-- by either way that the code takes
pub entry_told : (c r e : ℕ) → (c ≡ 0 → e ≡ free_entry) → ((c ≡ 0 → ⊥) → e ≡ r) → e ≡ entry_for c r
unfolding free_entry
entry_told c r e f u = go (eqb c 0) refl
  where
    go : (t : Bool) → eqb c 0 ≡ t → e ≡ entry_for c r
    go true q = let z : c ≡ 0 = eqb-true c 0 q in f z ∙ free_entry_lem c r z
    go false q = let n : c ≡ 0 → ⊥ = eqb-false c 0 q in u n ∙ used-entry c r n

-- a count is at most B
pub count-few : (cs : List ℕ) (b k : ℕ) → all (λ c. leb c b) cs ≡ true → k < length cs → get_or cs k 0 ≤ b
count-few cs b k h l = leb-true _ _ (each_all (λ c. leb c b) cs h (get_or cs k 0) (elem-get_or cs k l))

-- What the blocks from k on come to.
module _ (v : ℕ → Bool) (d : Device) (cs : List ℕ) where
  unfoldable pub entries_at : ℕ → List ℕ
  entries_at k = entries_from v d k (drop k cs)

  unfoldable pub counted_at : ℕ → ℕ
  counted_at k = counted_from v d k (drop k cs)

  module _ (k r : ℕ) (h : k < length cs) (q : r ≡ length (select v (get_or cs k 0) (first_page d k))) where
    pub entries_next : entries_at k ≡ entry_for (get_or cs k 0) r ∷ entries_at (k + 1)
    unfolding entries_at entries_from
    entries_next =
        ap (entries_from v d k) (drop_next cs k h)
        ∙ ap₂ (λ (x j : ℕ). entry_for (get_or cs k 0) x ∷ entries_from v d j (drop (k + 1) cs)) (sym q) (sym (add-one k))

    pub counted_next : counted_at k ≡ r + counted_at (k + 1)
    unfolding counted_at counted_from
    counted_next =
        ap (counted_from v d k) (drop_next cs k h)
        ∙ ap₂ (λ (x j : ℕ). x + counted_from v d j (drop (k + 1) cs)) (sym q) (sym (add-one k))

  pub entries-end : (k : ℕ) → length cs ≤ k → entries_at k ≡ []
  unfolding entries_at entries_from
  entries-end k h = ap (entries_from v d k) (drop_of_length-le cs h)

  pub counted-end : (k : ℕ) → length cs ≤ k → counted_at k ≡ 0
  unfolding counted_at counted_from
  counted-end k h = ap (counted_from v d k) (drop_of_length-le cs h)

  -- of all blocks
  pub entries_all : entries_at 0 ≡ entries_from v d 0 cs
  unfolding entries_at
  entries_all = refl

  pub counted_all : counted_at 0 ≡ counted_from v d 0 cs
  unfolding counted_at
  counted_all = refl

-- A block of a table whose counts are at most B: its count, and its pages among the device's.
pub record Counting (d : Device) (cs : List ℕ) (k c : ℕ) : Type 0 where
  pub there : k < length cs
  pub read : c ≡ get_or cs k 0
  pub few : c ≤ d.B
  pub most : d.B ≤ 256
  pub inside : k * d.B + d.B ≤ pages d
  pub all : pages d ≤ 1048576

module _ (d : Device) (s : List ℕ) (h : Shaped d (read_table s)) (k c : ℕ) (l : k < d.M) (q : c ≡ get_or (read_counts d s) k 0)
    (few : all (λ n. leb n d.B) (read_table s).counts ≡ true) where
  there_is : k < length (read_table s).counts
  there_is = omega (arith, l, length-counts d s h)

  pub counting : Counting d (read_table s).counts k c
  counting = record {
    there = there_is;
    read = q ∙ count_is d s h k;
    few = omega (arith, q, count_is d s h k, count-few (read_table s).counts d.B k few there_is);
    most = (limits d h.limits).most_B;
    inside = block-end d k l;
    all = (small d h.limits).all;
  }

-- how many of its written pages pass the test
module _ (v : ℕ → Bool) (d : Device) (cs : List ℕ) (k c r : ℕ) (b : Counting d cs k c)
    (q : r ≡ length (select v ((k * d.B + c) - k * d.B) (k * d.B))) where
  pub block_marked : r ≡ length (select v (get_or cs k 0) (first_page d k))
  unfolding first_page
  block_marked =
      let z : (k * d.B + c) - k * d.B ≡ get_or cs k 0 = omega (arith, b.read) in
      q ∙ ap (λ (i : ℕ). length (select v i (k * d.B))) z

  pub block_most : r ≤ d.B
  block_most = omega (arith, q, select_most v ((k * d.B + c) - k * d.B) (k * d.B), b.few)
