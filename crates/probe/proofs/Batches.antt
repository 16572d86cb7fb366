-- The conditions of the functions on a batch, and what they give. Assumes nothing.
use mathlib.Core.Path.{◌≡◌, refl}
use mathlib.Core.List.{List}
use mathlib.Core.Bool.{Bool, true, false}
use Prim.Native.Nat.{ℕ, ◌+◌, ◌*◌, ◌≤◌, ◌<◌}
use lib.Dec.{ltb, leb}
use lib.ListN.{length}
use borrow.Author.Tests.{leb-true, le-leb, lt-leb}
use Rattle.model.specs.Lists.{all, ascending, store}
use Rattle.model.specs.Learning.{sorted, logicals, sources, learn}
use Rattle.model.proofs.Bools.{and_l, and_r}
use Rattle.record.specs.Coding.{record_width}
use Rattle.learn.specs.Runs.{counts}
use Rattle.probe.specs.Encoded.{encoded}
use Rattle.probe.specs.Groups.{outside}
use Rattle.probe.specs.Batches.{sortable, Sorts, learnable, Learns}

module _ (batch : List ℕ) (p s : ℕ) where
  -- The tests, one after the other.
  pub too_long : 256 < length batch → false ≡ sortable batch p s
  unfolding sortable
  too_long h = rw (lt-leb (length batch) 256 h)

  module _ (few : length batch ≤ 256) where
    pub no_pages : p < length batch → false ≡ sortable batch p s
    unfolding sortable
    no_pages h = rw (le-leb (length batch) 256 few, lt-leb (length batch) p h)

    pub no_arrivals : length batch ≤ p → s < length batch → false ≡ sortable batch p s
    unfolding sortable
    no_arrivals l h = rw (le-leb (length batch) 256 few, le-leb (length batch) p l, lt-leb (length batch) s h)

    pub pages_decide : length batch ≤ p → length batch ≤ s → (t : Bool) → t ≡ all (λ x. ltb x 1048576) batch → t ≡ sortable batch p s
    unfolding sortable
    pages_decide l m t e = rw (le-leb (length batch) 256 few, le-leb (length batch) p l, le-leb (length batch) s m) e

  -- What a sortable batch gives.
  pub sortable-parts : sortable batch p s ≡ true → (length batch ≤ 256) × (all (λ x. ltb x 1048576) batch ≡ true) × (length batch ≤ p) × (length batch ≤ s)
  unfolding sortable
  sortable-parts h =
      let a = and_r (leb (length batch) 256) _ h in
      let b = and_r (leb (length batch) p) _ a in
      (leb-true _ _ (and_l _ _ h), and_r (leb (length batch) s) _ b, leb-true _ _ (and_l _ _ a), leb-true _ _ (and_l _ _ b))

-- A batch sorted, or left as it is.
module _ (t : Bool) (batch pages arrivals : List ℕ) where
  pub not_sorted : t ≡ false → Sorts t batch pages arrivals pages arrivals outside
  unfolding Sorts
  not_sorted e = rw e (refl, refl, refl)

  pub is_sorted : t ≡ true → (r : ℕ) (pages' arrivals' : List ℕ) → r ≡ length (sorted batch) → pages' ≡ store pages 0 (logicals (sorted batch))
      → arrivals' ≡ store arrivals 0 (sources (sorted batch)) → Sorts t batch pages arrivals pages' arrivals' r
  unfolding Sorts
  is_sorted e r pages' arrivals' a b c = rw e (a, b, c)

module _ (written : List ℕ) (first g o t : ℕ) where
  -- The tests, one after the other.
  pub many : 256 < length written → false ≡ learnable written first g o t
  unfolding learnable
  many h = rw (lt-leb (length written) 256 h)

  module _ (few : length written ≤ 256) where
    pub too_far : 2097152 < first + length written → false ≡ learnable written first g o t
    unfolding learnable
    too_far h = rw (le-leb (length written) 256 few, lt-leb (first + length written) 2097152 h)

    module _ (near : first + length written ≤ 2097152) where
      pub wide : 15 < g → false ≡ learnable written first g o t
      unfolding learnable
      wide h = rw (le-leb (length written) 256 few, le-leb (first + length written) 2097152 near, lt-leb g 15 h)

      module _ (bound : g ≤ 15) where
        pub no_bytes : o < record_width * length written → false ≡ learnable written first g o t
        unfolding learnable
        no_bytes h = rw (le-leb (length written) 256 few, le-leb (first + length written) 2097152 near, le-leb g 15 bound, lt-leb (record_width * length written) o h)

        module _ (room : record_width * length written ≤ o) where
          pub no_counts : t < length written → false ≡ learnable written first g o t
          unfolding learnable
          no_counts h = rw (le-leb (length written) 256 few, le-leb (first + length written) 2097152 near, le-leb g 15 bound, le-leb (record_width * length written) o room, lt-leb (length written) t h)

          pub order_decides : length written ≤ t → (x : Bool) → x ≡ ascending written → x ≡ learnable written first g o t
          unfolding learnable
          order_decides h x e = rw (le-leb (length written) 256 few, le-leb (first + length written) 2097152 near, le-leb g 15 bound, le-leb (record_width * length written) o room, le-leb (length written) t h) e

  -- What a learnable batch gives.
  pub learnable-parts : learnable written first g o t ≡ true
      → ((ascending written ≡ true) × (length written ≤ 256) × (first + length written ≤ 2097152) × (g ≤ 15)) × ((record_width * length written ≤ o) × (length written ≤ t))
  unfolding learnable
  learnable-parts h =
      let a = and_r (leb (length written) 256) _ h in
      let b = and_r (leb (first + length written) 2097152) _ a in
      let c = and_r (leb g 15) _ b in
      let d = and_r (leb (record_width * length written) o) _ c in
      ((and_r (leb (length written) t) _ d, leb-true _ _ (and_l _ _ h), leb-true _ _ (and_l _ _ a), leb-true _ _ (and_l _ _ b)), (leb-true _ _ (and_l _ _ c), leb-true _ _ (and_l _ _ d)))

-- A batch learned, or left as it is.
module _ (x : Bool) (written : List ℕ) (first g : ℕ) (out taken : List ℕ) where
  pub not_learned : x ≡ false → Learns x written first g out taken out taken outside
  unfolding Learns
  not_learned e = rw e (refl, refl, refl)

  pub is_learned : x ≡ true → (r : ℕ) (out' taken' : List ℕ) → r ≡ length (learn g first written) → out' ≡ store out 0 (encoded (learn g first written))
      → taken' ≡ store taken 0 (counts (learn g first written)) → Learns x written first g out taken out' taken' r
  unfolding Learns
  is_learned e r out' taken' a b c = rw e (a, b, c)
