-- The tally by any test of a page's validity: a block's entry, and the entries one after the other. Assumes nothing.
use mathlib.Core.Path.{◌≡◌, refl, sym, ◌∙◌, ap}
use mathlib.Core.List.{List, [], ◌∷◌}
use mathlib.Core.Bool.{Bool}
use Prim.Native.Nat.{ℕ, zero, suc, ◌+◌, ◌≤◌, ◌<◌}
use native.Mathlib.Omega.{arith}
use native.Mathlib.Numerals.{add-one}
use lib.ListN.{length, get_or, drop, drop_of_length-le}
use borrow.Author.Tests.{eq-eqb, ne_eqb}
use Rattle.model.specs.Device.{Device}
use Rattle.calls.specs.Choice.{used_by}
use Rattle.sorting.proofs.SortStores.{drop_next}
use Rattle.choice.specs.Tally.{free_entry, entry_by, entries_by, tally_by}

module _ (valid : ℕ → Bool) (d : Device) where
  -- The entry of block k with count c, which was read as n: it is free, or used with r valid pages.
  module _ (k c n : ℕ) (e : n ≡ c) where
    pub tally-free : n ≡ 0 → 257 ≡ entry_by valid d k c
    unfolding entry_by free_entry
    tally-free z = rw (eq-eqb c 0 (sym e ∙ z), entry_by)

    pub tally-used : (n ≡ 0 → ⊥) → (r : ℕ) → r ≡ length (used_by valid d k).pages → r ≡ entry_by valid d k c
    unfolding entry_by
    tally-used u r f = f ∙ rw (ne_eqb c 0 (λ z. u (e ∙ z)), entry_by)

  -- the entry at place i of those from block k on
  entry_from : (k i : ℕ) (cs : List ℕ) → i < length cs → get_or (entries_by valid d k cs) i 0 ≡ entry_by valid d (k + i) (get_or cs i 0)
  unfolding entries_by
  entry_from k i [] h = absurd (let z : ⊥ = omega arith in z)
  entry_from k zero (c ∷ cs) h = let z : k ≡ k + 0 = omega arith in ap (λ (j : ℕ). entry_by valid d j c) z
  entry_from k (suc i) (c ∷ cs) h =
      let z : suc k + i ≡ k + suc i = omega arith in
      entry_from (suc k) i cs (omega arith) ∙ ap (λ (j : ℕ). entry_by valid d j (get_or cs i 0)) z

  length_from : (k : ℕ) (cs : List ℕ) → length (entries_by valid d k cs) ≡ length cs
  unfolding entries_by
  length_from k [] = refl
  length_from k (c ∷ cs) = ap suc (length_from (suc k) cs)

  module _ (counts : List ℕ) where
    -- A used block's entry is the number of its valid pages.
    pub entry-used : (k : ℕ) → k < length counts → (get_or counts k 0 ≡ 0 → ⊥) → get_or (tally_by valid d counts) k 0 ≡ length (used_by valid d k).pages
    unfolding tally_by
    entry-used k h n =
        let z : 0 + k ≡ k = omega arith in
        entry_from 0 k counts h ∙ ap (λ (j : ℕ). entry_by valid d j (get_or counts k 0)) z ∙ sym (tally-used k (get_or counts k 0) (get_or counts k 0) refl n _ refl)

    -- The tally has as many entries as there are blocks.
    pub length-tally : length (tally_by valid d counts) ≡ length counts
    unfolding tally_by
    length-tally = length_from 0 counts

    -- the tally of the blocks from k on
    unfoldable pub tallies : ℕ → List ℕ
    tallies k = entries_by valid d k (drop k counts)

    -- Block k's entry is the next, and behind the last block none is left.
    pub tallies_next : (k r : ℕ) → k < length counts → r ≡ entry_by valid d k (get_or counts k 0) → tallies k ≡ r ∷ tallies (k + 1)
    unfolding tallies entries_by
    tallies_next k r h e =
        ap (entries_by valid d k) (drop_next counts k h)
        ∙ ap (λ (j : ℕ). entry_by valid d k (get_or counts k 0) ∷ entries_by valid d j (drop (k + 1) counts)) (sym (add-one k))
        ∙ ap (λ (x : ℕ). x ∷ tallies (k + 1)) (sym e)

    pub tallies-end : (k : ℕ) → length counts ≤ k → tallies k ≡ []
    unfolding tallies entries_by
    tallies-end k h = ap (entries_by valid d k) (drop_of_length-le counts h)
