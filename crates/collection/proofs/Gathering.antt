-- The valid pages of blocks, one block's after the other's, stored behind one another. Assumes nothing.
use mathlib.Core.Path.{◌≡◌, sym, ap, ◌∙◌}
use mathlib.Core.List.{List, [], ◌∷◌, ◌++◌, map, map-append}
use Prim.Native.Nat.{ℕ, ◌+◌, ◌≤◌, ◌<◌}
use native.Mathlib.Omega.{arith}
use lib.ListN.{length, get_or, drop, drop_of_length-le, length-append, length-map}
use Rattle.model.specs.Lists.{store}
use Rattle.model.specs.Device.{Device}
use Rattle.model.specs.Spare.{middle}
use Rattle.model.specs.State.{State}
use Rattle.calls.specs.Choice.{pages_of}
use Rattle.calls.specs.Collection.{used_block}
use Rattle.octets.proofs.Stores.{store_then}
use Rattle.sorting.proofs.SortStores.{drop_next}

-- The next of the pages, and none, as logical pages.
pub named_next : (d : Device) (spare : List ℕ) (p x : ℕ) (l m : List ℕ) → x ≡ middle d spare p → l ≡ p ∷ m → map (middle d spare) l ≡ x ∷ map (middle d spare) m
named_next d spare p x l m e f = ap (map (middle d spare)) f ∙ ap (λ (y : ℕ). y ∷ map (middle d spare) m) (sym e)

pub named_none : (d : Device) (spare l : List ℕ) → l ≡ [] → map (middle d spare) l ≡ []
named_none d spare l e = ap (map (middle d spare)) e

-- There are as many logical pages as pages.
pub named_count : (d : Device) (spare : List ℕ) (m n : ℕ) (l : List ℕ) → m ≡ n + length l → m ≡ n + length (map (middle d spare) l)
named_count d spare m n l e = omega (arith, e, length-map l (middle d spare))

-- Where one is left to store, there is room for it.
pub room-left : (whole n p : ℕ) (l m : List ℕ) → whole ≡ n + length l → l ≡ p ∷ m → n < whole
room-left whole n p l m e f = omega (arith, e, ap (λ (k : List ℕ). length k) f)

-- The whole is what is left to store: a part of it is stored at n, the rest is left behind that.
pub stored-part : (whole s t : List ℕ) (n m : ℕ) (ws vs us : List ℕ) → whole ≡ store s n ws → ws ≡ vs ++ us → t ≡ store s n vs → m ≡ n + length vs → whole ≡ store t m us
stored-part whole s t n m ws vs us e f g h =
    e ∙ ap (store s n) f ∙ sym (store_then s n vs us) ∙ ap (λ (k : ℕ). store (store s n vs) k us) (sym h) ∙ ap (λ (l : List ℕ). store l m us) (sym g)

module _ (s : State) (spare : List ℕ) where
  -- the valid pages of these blocks
  abbrev pub gathered : List ℕ → List ℕ
  gathered ks = pages_of (map (used_block s spare) ks)

  -- Behind the last block nothing is left.
  pub gathered-end : (ks : List ℕ) (i : ℕ) → length ks ≤ i → gathered (drop i ks) ≡ []
  unfolding pages_of
  gathered-end ks i h = ap gathered (drop_of_length-le ks h)

  module _ (ks : List ℕ) (i : ℕ) (h : i < length ks) where
    abbrev pub block : ℕ
    block = get_or ks i 0

    -- The pages of the block at place i come next: as pages, in number, as logical pages.
    pub gathered_next : gathered (drop i ks) ≡ (used_block s spare block).pages ++ gathered (drop (i + 1) ks)
    unfolding pages_of
    gathered_next = ap gathered (drop_next ks i h)

    pub gathered-count : length (gathered (drop i ks)) ≡ length (used_block s spare block).pages + length (gathered (drop (i + 1) ks))
    gathered-count = ap length gathered_next ∙ length-append (used_block s spare block).pages (gathered (drop (i + 1) ks))

    pub named-part : (d : Device) → map (middle d spare) (gathered (drop i ks))
        ≡ map (middle d spare) (used_block s spare block).pages ++ map (middle d spare) (gathered (drop (i + 1) ks))
    named-part d = ap (map (middle d spare)) gathered_next ∙ map-append (middle d spare) (used_block s spare block).pages (gathered (drop (i + 1) ks))
