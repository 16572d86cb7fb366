-- Erasing the taken blocks one after the other, and the whole that a collection leaves. Assumes nothing.
use mathlib.Core.Path.{◌≡◌, sym, ap, ◌∙◌}
use mathlib.Core.List.{List, [], ◌∷◌}
use Prim.Native.Nat.{ℕ, ◌+◌, ◌≤◌, ◌<◌}
use lib.ListN.{length, get_or, set, drop, drop_of_length-le}
use Rattle.model.specs.Lists.{store}
use Rattle.model.specs.Device.{Device}
use Rattle.model.specs.Spare.{erase}
use Rattle.model.specs.Learning.{Write, sources}
use Rattle.model.specs.State.{State, with_counts}
use Rattle.calls.specs.Outcome.{Lent, collected}
use Rattle.calls.specs.Flush.{write_state, write_block}
use Rattle.calls.specs.Choice.{blocks_of}
use Rattle.calls.specs.Collection.{victims, moves, move_all, erase_block, erase_blocks, list_erased, first_moved, collect_done}
use Rattle.calls.specs.History.{lend}
use Rattle.sorting.proofs.SortStores.{drop_next}
use Rattle.state.specs.Shaped.{Shaped}
use Rattle.state.proofs.Shaping.{shaped-counts, shaped-groups}

-- state s' and spare area spare' are what block k's erasing leaves of s and spare, whatever the lists
abbrev pub Erases : State → List ℕ → ℕ → State → List ℕ → Type 0
Erases s spare k s' spare' = (plan erased : List ℕ) → lend s' spare' plan erased ≡ erase_block k (lend s spare plan erased)

-- Its count cleared and its entries erased: the block is erased.
pub block-erased : (d : Device) (s s' : State) (spare spare' : List ℕ) (k : ℕ) → s.device ≡ d → s' ≡ with_counts (set s.counts k 0) s → spare' ≡ erase d k spare → Erases s spare k s' spare'
unfolding lend erase_block
block-erased d s s' spare spare' k n e f = λ plan erased. rw (e, f, n)

-- The state is shaped as before.
pub erased-shape : (d : Device) (s s' : State) (spare spare' : List ℕ) (k : ℕ) → Shaped d s → Erases s spare k s' spare' → Shaped d s'
unfolding lend erase_block
erased-shape d s s' spare spare' k h e =
    let q : s' ≡ with_counts (set s.counts k 0) s = ap (λ (x : Lent). x.state) (e [] []) in
    rw q (shaped-counts d (set s.counts k 0) s h)

-- what the blocks ks leave of s and spare is what these leave of s' and spare'
abbrev pub Clearing : List ℕ → State → List ℕ → List ℕ → State → List ℕ → Type 0
Clearing all s spare ks s' spare' = (plan erased : List ℕ) → erase_blocks all (lend s spare plan erased) ≡ erase_blocks ks (lend s' spare' plan erased)

module _ (ks : List ℕ) (s₀ s : State) (spare₀ spare : List ℕ) (i : ℕ) (w : Clearing ks s₀ spare₀ (drop i ks) s spare) where
  -- The block at place i is erased: the blocks behind it are left.
  pub cleared_next : i < length ks → (s' : State) (spare' : List ℕ) → Erases s spare (get_or ks i 0) s' spare' → Clearing ks s₀ spare₀ (drop (i + 1) ks) s' spare'
  unfolding erase_blocks
  cleared_next h s' spare' e = λ plan erased.
      w plan erased ∙ ap (λ (l : List ℕ). erase_blocks l (lend s spare plan erased)) (drop_next ks i h) ∙ ap (erase_blocks (drop (i + 1) ks)) (sym (e plan erased))

  -- Behind the last block nothing is left to erase.
  pub cleared-end : length ks ≤ i → (plan erased : List ℕ) → lend s spare plan erased ≡ erase_blocks ks (lend s₀ spare₀ plan erased)
  unfolding erase_blocks
  cleared-end h plan erased = sym (w plan erased ∙ ap (λ (l : List ℕ). erase_blocks l (lend s spare plan erased)) (drop_of_length-le ks h))

moved-shape : (d : Device) (ws : List Write) (x : Lent) → Shaped d x.state → Shaped d (move_all ws x).state
unfolding move_all write_block write_state
moved-shape d [] x h = h
moved-shape d (w ∷ ws) x h = shaped-groups d _ _ (shaped-counts d _ x.state h)

-- state s' and spare area spare' are what writing the moves leaves of s and spare, whatever the lists: the plan has the sources
abbrev pub Moving : State → List ℕ → List Write → State → List ℕ → Type 0
Moving s spare ws s' spare' = (plan erased : List ℕ) → lend s' spare' (store plan 0 (sources ws)) erased ≡ move_all ws (lend s spare plan erased)

-- The state is shaped as before.
pub written-shape : (d : Device) (s s' : State) (spare spare' : List ℕ) (ws : List Write) → Shaped d s → Moving s spare ws s' spare' → Shaped d s'
unfolding lend
written-shape d s s' spare spare' ws h e =
    let q : s' ≡ (move_all ws (lend s spare [] [])).state = ap (λ (x : Lent). x.state) (e [] []) in
    rw q (moved-shape d ws (lend s spare [] []) h)

-- Moves written, blocks erased: the collection, whatever the list that the blocks are in front of.
module _ (s s₁ s₂ : State) (spare spare₁ spare₂ plan plan₁ bs : List ℕ) (moved : Moving s spare (moves s spare) s₁ spare₁)
    (planned : plan₁ ≡ store plan 0 (sources (moves s spare))) (taken : bs ≡ blocks_of (victims s spare))
    (cleared : (plan erased : List ℕ) → lend s₂ spare₂ plan erased ≡ erase_blocks bs (lend s₁ spare₁ plan erased))
    (erased : List ℕ) where
  pub collection-left : lend s₂ spare₂ plan₁ (store erased 0 bs) ≡ (collect_done (lend s spare plan erased)).after
  unfolding collect_done list_erased lend
  collection-left =
      ap (λ (l : List ℕ). list_erased bs (lend s₂ spare₂ l erased)) planned
      ∙ ap (list_erased bs) (cleared _ erased ∙ ap (erase_blocks bs) (moved plan erased))
      ∙ ap (λ (ks : List ℕ). list_erased ks (erase_blocks ks (move_all (moves s spare) (lend s spare plan erased)))) taken

  pub collection-answer : (first n : ℕ) → first ≡ first_moved (moves s spare) s → n ≡ length (moves s spare)
      → collected first n (length bs) ≡ (collect_done (lend s spare plan erased)).answer
  unfolding collect_done lend
  collection-answer first n e f = rw (e, f, taken)
