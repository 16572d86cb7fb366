-- Blocks erased one after the other: their counts. Assumes nothing.
use mathlib.Core.Path.{◌≡◌, sym, ap, ◌∙◌}
use mathlib.Core.List.{List}
use Prim.Native.Nat.{ℕ, ◌+◌, ◌≤◌, ◌<◌}
use lib.ListN.{length, get_or, set, drop, drop_of_length-le}
use Rattle.model.specs.Device.{Device}
use Rattle.calls.specs.PageMap.{clear_counts}
use Rattle.sorting.proofs.SortStores.{drop_next}
use Rattle.plain.specs.Table.{Table, with_counts}
use Rattle.plain.specs.Calls.{cleared}
use Rattle.plainstate.specs.Shaped.{Shaped}
use Rattle.plainstate.proofs.Shaping.{shaped-counts}

-- A table with other counts is shaped as before.
pub erased-shape : (d : Device) (cs : List ℕ) (s t : Table) → Shaped d s → t ≡ with_counts cs s → Shaped d t
erased-shape d cs s t h e = rw e (shaped-counts d cs s h)

-- what the blocks from place i on leave of t is what all leave of s
abbrev pub Erasing : List ℕ → Table → ℕ → Table → Type 0
Erasing ks s i t = cleared ks s ≡ cleared (drop i ks) t

module _ (ks : List ℕ) (s : Table) (i : ℕ) (t : Table) (so : Erasing ks s i t) where
  -- The block at place i is erased: those behind it are left.
  pub erase_next : i < length ks → (u : Table) → u ≡ with_counts (set t.counts (get_or ks i 0) 0) t → Erasing ks s (i + 1) u
  unfolding cleared clear_counts
  erase_next h u e =
      so ∙ ap (λ (l : List ℕ). with_counts (clear_counts l t.counts) t) (drop_next ks i h)
      ∙ ap (λ (w : Table). with_counts (clear_counts (drop (i + 1) ks) w.counts) w) (sym e)

  -- Behind the last block nothing is left to erase.
  pub erase_all : length ks ≤ i → t ≡ cleared ks s
  unfolding cleared clear_counts
  erase_all h = sym (so ∙ ap (λ (l : List ℕ). with_counts (clear_counts l t.counts) t) (drop_of_length-le ks h))
