-- Which blocks a collection takes and which pages, by any test of a page's validity: used blocks, each once, and their valid pages.
-- Assumes nothing.
use mathlib.Core.Path.{◌≡◌, refl, sym, ◌∙◌, ap}
use mathlib.Core.List.{List, [], ◌∷◌, ◌++◌, map}
use mathlib.Core.Logic.{◌≢◌, ◌⊎◌, inl, inr}
use mathlib.Core.Bool.{true≢false, Bool, true}
use Prim.Native.Nat.{ℕ, ◌+◌, ◌-◌, ◌/◌, ◌%◌, ◌≤◌, ◌<◌}
use native.Mathlib.Omega.{arith}
use native.Mathlib.Nat.{mod-lt}
use lib.ListN.{length, get_or}
use Rattle.model.specs.Lists.{elem, distinct, select}
use Rattle.model.specs.Device.{Device, first_page}
use Rattle.model.specs.State.{used_blocks}
use Rattle.model.proofs.Lists.{elem_cons, elem_here, elem_there, no_elem, picked, asc_select}
use Rattle.model.proofs.Counting.{elem_append, elem-left, elem-right, asc_distinct, distinct_head, distinct_tail, distinct_append}
use Rattle.model.proofs.Blocks.{used_only, used_asc}
use Rattle.model.proofs.Limits.{page-block, page-split}
use Rattle.calls.specs.Choice.{Used, used_by, ranked, victims_by, blocks_of, pages_of}
use Rattle.calls.specs.Ranked.{Each, none, both}
use Rattle.calls.proofs.Ranking.{ranked_each, ranked-elem, ranked-distinct, taken_each, taken-elem, taken-distinct, taken-fits}

module _ (valid : ℕ → Bool) (d : Device) where
  -- a block with its own valid pages
  abbrev pub Own : Used → Type 0
  Own u = u.pages ≡ select valid d.B (first_page d u.block)

  -- Every used block is listed with its own valid pages.
  pub used-own : (ks : List ℕ) → Each Own (map (used_by valid d) ks)
  unfolding used_by
  used-own [] = none
  used-own (k ∷ ks) = both refl (used-own ks)

  -- The used blocks are listed by their numbers.
  pub used_blocks_lem : (ks : List ℕ) → blocks_of (map (used_by valid d) ks) ≡ ks
  unfolding used_by blocks_of
  used_blocks_lem [] = refl
  used_blocks_lem (k ∷ ks) = ap (λ (l : List ℕ). k ∷ l) (used_blocks_lem ks)

  -- a block's own page is valid and in that block
  own-page : (u : Used) → Own u → (p : ℕ) → elem p u.pages ≡ true → (valid p ≡ true) × (p / d.B ≡ u.block)
  own-page u q p h =
      let f : ℕ = first_page d u.block in
      let k = (picked valid d.B f).only p (sym (ap (elem p) q) ∙ h) in
      let e : f + (p - f) ≡ p = omega (arith, k.1) in
      (k.0, rw e at (page-block d u.block (p - f) (omega (arith, k.1, k.2))))

  -- The pages of blocks with their own valid pages are valid and in one of these blocks.
  pub own_only : (l : List Used) → Each Own l → (p : ℕ) → elem p (pages_of l) ≡ true → (valid p ≡ true) × (elem (p / d.B) (blocks_of l) ≡ true)
  unfolding pages_of blocks_of
  own_only [] e p h = no_elem p h
  own_only (u ∷ l) (both q e) p h = go (elem_append p u.pages (pages_of l) h) (λ j. own_only l e p j)
    where
      go : (elem p u.pages ≡ true) ⊎ (elem p (pages_of l) ≡ true) → (elem p (pages_of l) ≡ true → (valid p ≡ true) × (elem (p / d.B) (blocks_of l) ≡ true)) → (valid p ≡ true) × (elem (p / d.B) (u.block ∷ blocks_of l) ≡ true)
      go (inl j) ih = let k = own-page u q p j in (k.0, rw k.1 (elem_here u.block (blocks_of l)))
      go (inr j) ih = ((ih j).0, elem_there (p / d.B) u.block (blocks_of l) (ih j).1)

  -- every valid page in one of them is among their pages
  own-every : 0 < d.B → (l : List Used) → Each Own l → (p : ℕ) → valid p ≡ true → elem (p / d.B) (blocks_of l) ≡ true → elem p (pages_of l) ≡ true
  unfolding pages_of blocks_of
  own-every b [] e p t h = no_elem (p / d.B) h
  own-every b (u ∷ l) (both q e) p t h = go (elem_cons (p / d.B) u.block (blocks_of l) h) (λ j. own-every b l e p t j)
    where
      here : p / d.B ≡ u.block → elem p u.pages ≡ true
      here k =
          let z : first_page d u.block + p % d.B ≡ p = rw k at (page-split d p) in
          let i : p % d.B < d.B = mod-lt p b in
          ap (elem p) q ∙ (picked valid d.B (first_page d u.block)).every p (omega arith) (omega arith) t

      go : (p / d.B ≡ u.block) ⊎ (elem (p / d.B) (blocks_of l) ≡ true) → (elem (p / d.B) (blocks_of l) ≡ true → elem p (pages_of l) ≡ true) → elem p (u.pages ++ pages_of l) ≡ true
      go (inl k) ih = elem-left p u.pages (pages_of l) (here k)
      go (inr j) ih = elem-right p u.pages (pages_of l) (ih j)

  -- Of blocks with their own valid pages, none twice, no page comes twice.
  pub own-distinct : (l : List Used) → Each Own l → distinct (blocks_of l) ≡ true → distinct (pages_of l) ≡ true
  unfolding pages_of blocks_of distinct
  own-distinct [] e h = refl
  own-distinct (u ∷ l) (both q e) h =
      distinct_append u.pages (pages_of l) (ap distinct q ∙ asc_distinct (asc_select valid d.B _)) (own-distinct l e (distinct_tail u.block (blocks_of l) h))
      (λ p a b. true≢false (sym (own_only l e p b).1 ∙ ap (λ (k : ℕ). elem k (blocks_of l)) (own-page u q p a).1 ∙ distinct_head u.block (blocks_of l) h))

  module _ (counts : List ℕ) where
    -- the used blocks
    abbrev used : List Used
    used = map (used_by valid d) (used_blocks 0 counts)

    -- those that are taken
    abbrev taken : List Used
    taken = victims_by valid d counts

    -- A block that is taken is listed with its own valid pages.
    pub victims-own : Each Own taken
    unfolding victims_by
    victims-own = taken_each Own d.B (ranked used) (ranked_each Own used (used-own (used_blocks 0 counts)))

    -- A block that is taken is a used block.
    pub victim_used : (k : ℕ) → elem k (blocks_of taken) ≡ true → (k < length counts) × (get_or counts k 0 ≢ 0)
    unfolding victims_by
    victim_used k h =
        used_only counts k (sym (ap (elem k) (used_blocks_lem (used_blocks 0 counts))) ∙ sym (ranked-elem k used) ∙ taken-elem k d.B (ranked used) h)

    -- No block is listed twice.
    pub used-distinct : distinct (blocks_of used) ≡ true
    used-distinct = ap distinct (used_blocks_lem (used_blocks 0 counts)) ∙ asc_distinct (used_asc counts)

    -- No block is taken twice.
    pub victims-distinct : distinct (blocks_of taken) ≡ true
    unfolding victims_by
    victims-distinct = taken-distinct d.B (ranked used) (ranked-distinct used used-distinct)

    -- A page taken is a valid page of a block that is taken.
    pub page-taken : (p : ℕ) → elem p (pages_of taken) ≡ true → (valid p ≡ true) × (elem (p / d.B) (blocks_of taken) ≡ true)
    page-taken p h = own_only taken victims-own p h

    -- A valid page of such a block is taken.
    pub taken-page : 0 < d.B → (p : ℕ) → valid p ≡ true → elem (p / d.B) (blocks_of taken) ≡ true → elem p (pages_of taken) ≡ true
    taken-page b p t h = own-every b taken victims-own p t h

    -- The pages taken fit a block.
    pub pages-fit : length (pages_of taken) ≤ d.B
    unfolding victims_by
    pages-fit = taken-fits d.B (ranked used)
