-- What is read after a write: a count stored changes that count alone, an entry stored that entry. Assumes nothing.
use mathlib.Core.Path.{◌≡◌, sym, ap, ◌∙◌}
use mathlib.Core.List.{List}
use mathlib.Core.Logic.{◌≢◌, ◌⊎◌, inl, inr}
use Prim.Native.Nat.{ℕ, ◌+◌, ◌*◌, ◌≤◌, ◌<◌}
use native.Mathlib.Omega.{arith}
use lib.ListN.{length, set}
use Rattle.model.specs.Lists.{store}
use Rattle.model.specs.Device.{Device}
use Rattle.model.proofs.Lists.{length-store}
use Rattle.plain.specs.Table.{with_counts, with_entries}
use Rattle.octets.specs.Little.{le16, le32, bytes2, bytes4}
use Rattle.octets.proofs.Same.{stored-below, stored-above, stored_at}
use Rattle.octets.proofs.ReadWrite.{le16_same, le32_same, length-bytes2}
use Rattle.front.specs.Tables.{list_from}
use Rattle.front.specs.Reading.{numbers_at, read_counts}
use Rattle.front.proofs.Tables.{beside, from_same, from_set}
use Rattle.front.proofs.HeadBytes.{numbers_same}
use Rattle.front.proofs.CountsRead.{count-stored}
use Rattle.plainstate.specs.Reading.{entry_place, read_entries, read_table}
use Rattle.plainstate.specs.Shaped.{Shaped}
use Rattle.plainstate.proofs.Sizes.{entry_at_lem, end_at}
use Rattle.plainstate.proofs.Shaping.{long, numbers_are, front_in, counts_are, entries_are}

-- the table that bytes are read as, part by part
read_as : (d : Device) (t : List ℕ) (n : ℕ) (cs es : List ℕ) → length t ≡ n → numbers_at t ≡ d → read_counts d t ≡ cs → read_entries d t ≡ es
    → read_table t ≡ record { bytes = n; device = d; counts = cs; entries = es }
unfolding read_table
read_as d t n cs es l e c x = rw (e, l, c, x)

-- a number below 2 ^ 32 in four bytes
length-bytes4 : (v : ℕ) → length (bytes4 v) ≡ 4
unfolding bytes4
length-bytes4 v = omega arith

le32-stored : (s : List ℕ) (p v : ℕ) → p + 4 ≤ length s → v < 4294967296 → le32 (store s p (bytes4 v)) p ≡ v
unfolding le32 le16 bytes4
le32-stored s p v h k =
    let d : le32 (bytes4 v) 0 ≡ v = omega arith in
    le32_same (stored_at s p (bytes4 v) h) ∙ d

module _ (d : Device) (s : List ℕ) (h : Shaped d (read_table s)) where
  -- v stored behind the device numbers: the table is read anew
  stored-read : (p : ℕ) (v cs es : List ℕ) → 16 ≤ p → read_counts d (store s p v) ≡ cs → read_entries d (store s p v) ≡ es
      → read_table (store s p v) ≡ record { bytes = (read_table s).bytes; device = (read_table s).device; counts = cs; entries = es }
  unfolding read_table
  stored-read p v cs es l c x =
      read_as d _ (length s) cs es (length-store s p v) (numbers_same (stored-below 16 s p v 0 (omega arith)) ∙ numbers_are d s h) c x
      ∙ ap (λ (e : Device). record { bytes = length s; device = e; counts = cs; entries = es }) (sym (numbers_are d s h))

  -- a count stored at its place
  entries-kept : (k v : ℕ) → k < d.M → read_entries d (store s (16 + 2 * k) (bytes2 v)) ≡ read_entries d s
  unfolding read_entries
  entries-kept k v l =
      from_same (λ x. le32 (store s (16 + 2 * k) (bytes2 v)) (entry_place d x)) (λ x. le32 s (entry_place d x)) 0 d.N
      (λ x a b. le32_same (stored-above 4 s (16 + 2 * k) (bytes2 v) (entry_place d x) (omega (arith, length-bytes2 v, entry_at_lem d x))))

  pub count-stored_at : (k v : ℕ) → k < d.M → v < 65536 → read_table (store s (16 + 2 * k) (bytes2 v)) ≡ with_counts (set (read_table s).counts k v) (read_table s)
  count-stored_at k v there small =
      stored-read (16 + 2 * k) (bytes2 v) (set (read_table s).counts k v) (read_table s).entries (omega arith)
      (count-stored d s k v there small (front_in d s h).0 ∙ ap (λ (cs : List ℕ). set cs k v) (sym (counts_are d s h)))
      (entries-kept k v there ∙ sym (entries_are d s h))

  -- an entry stored at its place
  module _ (x v : ℕ) (there : x < d.N) (small : v < 4294967296) where
    abbrev stored : List ℕ
    stored = store s (entry_place d x) (bytes4 v)

    counts-kept : read_counts d stored ≡ read_counts d s
    unfolding read_counts
    counts-kept =
        from_same (λ k. le16 stored (16 + 2 * k)) (λ k. le16 s (16 + 2 * k)) 0 d.M
        (λ k a b. le16_same (stored-below 2 s (entry_place d x) (bytes4 v) (16 + 2 * k) (omega (arith, entry_at_lem d x))))

    other_entry : (i : ℕ) → i ≢ x → le32 stored (entry_place d i) ≡ le32 s (entry_place d i)
    other_entry i n = go (beside i x n)
      where
        go : (i < x) ⊎ (x < i) → le32 stored (entry_place d i) ≡ le32 s (entry_place d i)
        go (inl l) = le32_same (stored-below 4 s (entry_place d x) (bytes4 v) (entry_place d i) (omega (arith, entry_at_lem d x, entry_at_lem d i)))
        go (inr l) =
            le32_same (stored-above 4 s (entry_place d x) (bytes4 v) (entry_place d i) (omega (arith, length-bytes4 v, entry_at_lem d x, entry_at_lem d i)))

    room : entry_place d x + 4 ≤ length s
    room = omega (arith, entry_at_lem d x, long d s h, end_at d)

    entry-stored : read_entries d stored ≡ set (read_entries d s) x v
    unfolding read_entries
    entry-stored =
        from_set (λ i. le32 stored (entry_place d i)) (λ i. le32 s (entry_place d i)) x d.N (λ i l n. other_entry i n) there
        ∙ ap (set (list_from (λ i. le32 s (entry_place d i)) 0 d.N) x) (le32-stored s (entry_place d x) v room small)

    pub entry-stored_at : (p : ℕ) → p ≡ entry_place d x → read_table (store s p (bytes4 v)) ≡ with_entries (set (read_table s).entries x v) (read_table s)
    entry-stored_at p e =
        ap (λ (q : ℕ). read_table (store s q (bytes4 v))) e
        ∙ stored-read (entry_place d x) (bytes4 v) (read_table s).counts (set (read_table s).entries x v) (omega (arith, entry_at_lem d x))
        (counts-kept ∙ sym (counts_are d s h)) (entry-stored ∙ ap (λ (es : List ℕ). set es x v) (sym (entries_are d s h)))
