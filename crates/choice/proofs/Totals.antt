-- The valid pages of blocks by the tally, together. Assumes nothing.
use mathlib.Core.Path.{◌≡◌, refl, ◌∙◌, ap}
use mathlib.Core.List.{List, [], ◌∷◌, ◌++◌, map}
use mathlib.Core.Logic.{◌≢◌}
use mathlib.Core.Bool.{Bool, true, false}
use Prim.Native.Nat.{ℕ, suc, ◌+◌, ◌*◌, ◌-◌, ◌<◌}
use native.Mathlib.Omega.{arith}
use lib.Dec.{leb, eqb}
use lib.ListN.{length, get_or, drop, length-append, length-drop}
use lib.Seq.{drop-cons}
use borrow.Author.Tests.{leb-true, leb-false, eqb-true, eqb-false}
use Rattle.model.specs.Lists.{elem}
use Rattle.model.specs.Device.{Device}
use Rattle.model.proofs.Lists.{elem_here, elem_there}
use Rattle.calls.specs.Choice.{Used, blocks_of, pages_of, used_by, victims_by}
use Rattle.calls.proofs.Choosing.{victim_used}
use Rattle.choice.specs.Tally.{tally_by, with_entry, take_equal, chosen_with, total}
use Rattle.choice.proofs.Entries.{entry_here, entry_other, equal_here, equal_stop}
use Rattle.choice.proofs.Taken.{taken-again}
use Rattle.choice.proofs.Tallies.{entry-used}

-- Of blocks behind others: the sum.
pub total_append : (tally ks js : List ℕ) → total tally (ks ++ js) ≡ total tally ks + total tally js
unfolding total
total_append tally [] js = omega arith
total_append tally (k ∷ ks) js = omega (arith, total_append tally ks js)

module _ (tally : List ℕ) (c : ℕ) where
  -- what is said of the blocks with entry c among those with these entries, the first of which is block k's
  abbrev Equal : ℕ → ℕ → List ℕ → Type 0
  Equal room k ts = total tally (take_equal c room (with_entry c k ts)) ≡ c * length (take_equal c room (with_entry c k ts))

  equal_from : (room k : ℕ) (ts : List ℕ) → drop k tally ≡ ts → Equal room k ts
  unfolding total take_equal with_entry
  equal_from room k [] e = omega arith
  equal_from room k (t ∷ ts) e = go (eqb t c) refl (leb c room) refl (equal_from room (suc k) ts after) (equal_from (room - c) (suc k) ts after)
    where
      inside : k < length tally
      inside = omega (arith, ap length e, length-drop k tally)

      first : get_or tally k 0 ≡ t
      first = cc (drop-cons tally k 0 inside)

      after : drop (suc k) tally ≡ ts
      after = cc (drop-cons tally k 0 inside)

      go : (a : Bool) → eqb t c ≡ a → (b : Bool) → leb c room ≡ b → Equal room (suc k) ts → Equal (room - c) (suc k) ts → Equal room k (t ∷ ts)
      go false q b f ih _ = rw (entry_other c k t ts (eqb-false t c q)) ih
      go true q true f _ ih =
          rw (entry_here c k t ts (eqb-true t c q), equal_here c room k (with_entry c (suc k) ts) (leb-true c room f)) (omega (arith, ih, first, eqb-true t c q))
      go true q false f _ _ =
          rw (entry_here c k t ts (eqb-true t c q), equal_stop c room k (with_entry c (suc k) ts) (leb-false c room f)) (omega arith)

  -- Of blocks with c valid pages: c for each.
  pub total_equal : (room : ℕ) → total tally (chosen_with tally c room) ≡ c * length (chosen_with tally c room)
  total_equal room = equal_from room 0 tally refl

module _ (valid : ℕ → Bool) (d : Device) (counts : List ℕ) where
  total-used : (ks : List ℕ) → ((k : ℕ) → elem k ks ≡ true → (k < length counts) × (get_or counts k 0 ≢ 0))
      → total (tally_by valid d counts) ks ≡ length (pages_of (map (used_by valid d) ks))
  unfolding total pages_of
  total-used [] u = refl
  total-used (k ∷ ks) u =
      let here = u k (elem_here k ks) in
      let rest = total-used ks (λ j m. u j (elem_there j k ks m)) in
      omega (arith, rest, entry-used valid d counts k here.0 here.1, length-append (used_by valid d k).pages (pages_of (map (used_by valid d) ks)))

  -- Of the blocks that a collection takes: the number of the pages that it moves.
  pub total-victims : total (tally_by valid d counts) (blocks_of (victims_by valid d counts)) ≡ length (pages_of (victims_by valid d counts))
  total-victims =
      total-used (blocks_of (victims_by valid d counts)) (victim_used valid d counts)
      ∙ ap (λ (us : List Used). length (pages_of us)) (taken-again valid d counts)
