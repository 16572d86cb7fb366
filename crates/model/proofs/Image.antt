-- What programming a list of logical pages leaves in a block's spare entries, and what a lookup reads from it. Assumes nothing.
use mathlib.Core.Path.{◌≡◌, refl, sym, ◌∙◌}
use mathlib.Core.List.{List, []}
use mathlib.Core.Logic.{◌≢◌}
use mathlib.Core.Bool.{Bool, true, false}
use Prim.Native.Nat.{ℕ, ◌+◌, ◌*◌, ◌-◌, ◌≤◌, ◌<◌}
use native.Mathlib.Omega.{arith}
use lib.Dec.{ltb}
use lib.ListN.{length, get_or, replicate, get_or-replicate, get_or-eq_default}
use borrow.Author.Tests.{ltb-true, ltb-false, le-ltb}
use Rattle.model.specs.Device.{Device, first_page, names_per_page, entries_per_page, spare_length}
use Rattle.model.specs.Spare.{nobody, entry, middle, entry_rule, erase, program_block}
use Rattle.model.proofs.Lists.{Asc, get_or_default}
use Rattle.model.proofs.Counting.{asc_distinct, distinct-index}
use Rattle.model.proofs.Limits.{g_inside, names-inside, entry_place_lem, entry-in_block, block_in_spare}
use Rattle.model.proofs.SpareArea.{erased, erase_other, program_block-entry, program_block-rest, program_block_other}

-- The first c pages of block k hold the names that programming all of L gives, and the pages behind name nobody.
pub record Image (d : Device) (spare : List ℕ) (k : ℕ) (L : List ℕ) (c : ℕ) : Type 0 where
  pub written : (i j : ℕ) → i < c → i < d.B → j < names_per_page d → entry d spare (first_page d k + i) j ≡ entry_rule d L i j
  pub unwritten : (i j : ℕ) → c ≤ i → i < d.B → j < names_per_page d → entry d spare (first_page d k + i) j ≡ nobody

-- Programming a block leaves the image of what was programmed.
pub program_block-image : (d : Device) (w : List ℕ) (k : ℕ) (s : List ℕ) → k < d.M → length w ≤ d.B → length s ≡ spare_length d → Image d (program_block d w k s) k w (length w)
program_block-image d w k s h b e = record {
  written = λ i j l m n. program_block-entry d w k s i j h b l n e;
  unwritten = λ i j l m n. program_block-rest d w k s i j h l m (omega (arith, n, names-inside d)) e;
}

-- An erased block has the image of nothing.
pub erase-image : (d : Device) (k : ℕ) (s : List ℕ) → k < d.M → length s ≡ spare_length d → Image d (erase d k s) k [] 0
erase-image d k s h e = record {
  written = λ i j l m n. absurd (omega arith);
  unwritten = λ i j l m n. erased d k s i j h m (omega (arith, n, names-inside d)) e;
}

-- Where the entries of a block are the same, so is its image.
same_image : (d : Device) (s s' : List ℕ) (k : ℕ) (L : List ℕ) (c : ℕ) → ((i j : ℕ) → i < d.B → j < names_per_page d → entry d s' (first_page d k + i) j ≡ entry d s (first_page d k + i) j) → Image d s k L c → Image d s' k L c
same_image d s s' k L c f v = record {
  written = λ i j l m n. f i j m n ∙ v.written i j l m n;
  unwritten = λ i j l m n. f i j m n ∙ v.unwritten i j l m n;
}

-- Programming a block keeps the image of every other.
pub program_block_keeps : (d : Device) (w : List ℕ) (k k' : ℕ) (s : List ℕ) (L : List ℕ) (c : ℕ) → length w ≤ d.B → k' ≢ k → Image d s k' L c → Image d (program_block d w k s) k' L c
program_block_keeps d w k k' s L c b n v = same_image d s (program_block d w k s) k' L c (λ i j h m. program_block_other d w k k' s i j b n h (omega (arith, m, names-inside d))) v

-- An erase keeps the image of every other block.
pub erase_keeps : (d : Device) (k k' : ℕ) (s : List ℕ) (L : List ℕ) (c : ℕ) → k' ≢ k → Image d s k' L c → Image d (erase d k s) k' L c
erase_keeps d k k' s L c n v = same_image d s (erase d k s) k' L c (λ i j h m. erase_other d k k' s i j n h (omega (arith, m, names-inside d))) v

-- In a spare area whose entries all name nobody every block has the image of nothing.
pub blank-image : (d : Device) (k : ℕ) → k < d.M → Image d (replicate (spare_length d) nobody) k [] 0
unfolding entry
blank-image d k h = record {
  written = λ i j l m n. absurd (omega arith);
  unwritten = λ i j l m n. get_or-replicate (spare_length d) ((first_page d k + i) * entries_per_page d + j) nobody nobody (omega (arith, entry_place_lem d k i j, entry-in_block d i j m (omega (arith, n, names-inside d)), block_in_spare d k h));
}

-- By the entry rule the entry for page y of the block names what was programmed there.
pub rule_at : (d : Device) (L : List ℕ) (i j y : ℕ) → i + j ≡ y + d.g → entry_rule d L i j ≡ get_or L y nobody
unfolding entry_rule
rule_at d L i j y e =
    let t : ltb (i + j) d.g ≡ false = le-ltb (i + j) d.g (omega arith) in
    let s : i + j - d.g ≡ y = omega arith in
    rw (t, entry_rule) (rw s refl)

-- By the entry rule x, programmed as page y, is named by the entry for that page only.
pub rule_only : (d : Device) (L : List ℕ) (i j y x : ℕ) → Asc 0 L → y < length L → get_or L y 0 ≡ x → x < nobody → entry_rule d L i j ≡ x → i + j ≡ y + d.g
unfolding entry_rule
rule_only d L i j y x a h e b q = go (ltb (i + j) d.g) (ltb (i + j - d.g) (length L)) refl refl
  where
    go : (t u : Bool) → ltb (i + j) d.g ≡ t → ltb (i + j - d.g) (length L) ≡ u → i + j ≡ y + d.g
    go true u p s = absurd (omega (arith, rw (p, entry_rule) at q))
    go false false p s =
        let f : get_or L (i + j - d.g) nobody ≡ nobody = get_or-eq_default L nobody (ltb-false _ _ s) in
        let f' : get_or L (i + j - d.g) nobody ≡ x = rw (p, entry_rule) at q in
        absurd (omega arith)
    go false true p s =
        let l : i + j - d.g < length L = ltb-true _ _ s in
        let f : get_or L (i + j - d.g) nobody ≡ x = rw (p, entry_rule) at q in
        let r : i + j - d.g ≡ y = distinct-index L (i + j - d.g) y (asc_distinct a) l h (get_or_default L (i + j - d.g) 0 nobody l ∙ f ∙ sym e) in
        let z : d.g ≤ i + j = ltb-false (i + j) d.g p in
        omega arith

-- The middle entry of a page that was programmed names its logical page.
pub image-middle : (d : Device) (spare : List ℕ) (k : ℕ) (L : List ℕ) (c i : ℕ) → Image d spare k L c → i < c → i < d.B → middle d spare (first_page d k + i) ≡ get_or L i nobody
unfolding middle
image-middle d spare k L c i v l h = v.written i d.g l h (g_inside d) ∙ rule_at d L i d.g i refl
