-- The counts as they are read: how many, the one at its place, and all of them after one was stored. Assumes nothing.
use mathlib.Core.Path.{◌≡◌, sym, ap, ◌∙◌}
use mathlib.Core.List.{List}
use mathlib.Core.Logic.{◌≢◌, ◌⊎◌, inl, inr}
use Prim.Native.Nat.{ℕ, ◌+◌, ◌*◌, ◌≤◌, ◌<◌}
use native.Mathlib.Omega.{arith}
use lib.ListN.{length, get_or, set}
use Rattle.model.specs.Lists.{store}
use Rattle.model.specs.Device.{Device}
use Rattle.octets.specs.Little.{le16, bytes2}
use Rattle.octets.proofs.Same.{stored-below, stored-above}
use Rattle.octets.proofs.ReadWrite.{le16_same, length-bytes2, le16-stored}
use Rattle.front.specs.Tables.{list_from}
use Rattle.front.specs.Reading.{read_counts}
use Rattle.front.proofs.Tables.{beside, length_from, get_or_from, from_set}

module _ (d : Device) (b : List ℕ) where
  pub length-read : length (read_counts d b) ≡ d.M
  unfolding read_counts
  length-read = length_from _ 0 d.M

  -- the two bytes at block k's place, p
  pub count-read : (k p r : ℕ) → k < d.M → p ≡ 16 + 2 * k → r ≡ le16 b p → r ≡ get_or (read_counts d b) k 0
  unfolding read_counts
  count-read k p r h e f = f ∙ ap (le16 b) e ∙ sym (get_or_from (λ i. le16 b (16 + 2 * i)) d.M k 0 h)

  -- v stored there
  module _ (k v : ℕ) (h : k < d.M) (small : v < 65536) (room : 16 + 2 * d.M ≤ length b) where
    abbrev stored : List ℕ
    stored = store b (16 + 2 * k) (bytes2 v)

    other_count : (i : ℕ) → i ≢ k → le16 stored (16 + 2 * i) ≡ le16 b (16 + 2 * i)
    other_count i n = go (beside i k n)
      where
        go : (i < k) ⊎ (k < i) → le16 stored (16 + 2 * i) ≡ le16 b (16 + 2 * i)
        go (inl l) = le16_same (stored-below 2 b (16 + 2 * k) (bytes2 v) (16 + 2 * i) (omega arith))
        go (inr l) = le16_same (stored-above 2 b (16 + 2 * k) (bytes2 v) (16 + 2 * i) (omega (arith, length-bytes2 v)))

    pub count-stored : read_counts d stored ≡ set (read_counts d b) k v
    unfolding read_counts
    count-stored =
        from_set (λ i. le16 stored (16 + 2 * i)) (λ i. le16 b (16 + 2 * i)) k d.M (λ i l n. other_count i n) h
        ∙ ap (set (list_from (λ i. le16 b (16 + 2 * i)) 0 d.M) k) (le16-stored b (16 + 2 * k) v (omega arith) small)
