-- The spare area's entries after an erase and after programming: of the block itself and of every other. Assumes nothing.
use mathlib.Core.Path.{◌≡◌, refl, ◌∙◌, ap}
use mathlib.Core.List.{List}
use mathlib.Core.Logic.{◌≢◌, ◌⊎◌, inl, inr}
use mathlib.Core.Bool.{Bool, true, false}
use Prim.Native.Nat.{ℕ, zero, suc, ◌+◌, ◌*◌, ◌≤◌, ◌<◌}
use native.Mathlib.Omega.{arith}
use native.Mathlib.Nat.{zero-add, mul-le-mul_right}
use lib.Dec.{ltb}
use lib.ListN.{length, get_or, replicate, length-replicate, get_or-replicate}
use borrow.Author.Tests.{ltb-true, ltb-false}
use Rattle.model.specs.Lists.{store}
use Rattle.model.specs.Device.{Device, first_page, names_per_page, entries_per_page, entries_per_block, spare_length}
use Rattle.model.specs.Spare.{nobody, entry, entry_rule, ruled_entries, erase, program_page, program_pages, program_block}
use Rattle.model.proofs.Lists.{le_cases, length-store, get_or-store, get_or-store-below, get_or-store-above}
use Rattle.model.proofs.Limits.{page-apart, names-inside, entry_place_lem, entry-in_block, block_in_spare}

-- An erase keeps the spare area's length.
pub length-erase : (d : Device) (k : ℕ) (s : List ℕ) → length (erase d k s) ≡ length s
unfolding erase
length-erase d k s = length-store s (k * entries_per_block d) (replicate (entries_per_block d) nobody)

-- Programming a page keeps it.
pub length-program_page : (d : Device) (w : List ℕ) (k i : ℕ) (s : List ℕ) → length (program_page d w k i s) ≡ length s
unfolding program_page
length-program_page d w k i s = length-store s ((first_page d k + i) * entries_per_page d) (ruled_entries d w i 0 (names_per_page d))

-- Programming pages keeps it.
pub length-program_pages : (d : Device) (w : List ℕ) (k i n : ℕ) (s : List ℕ) → length (program_pages d w k i n s) ≡ length s
unfolding program_pages
length-program_pages d w k i zero s = refl
length-program_pages d w k i (suc n) s = length-program_pages d w k (suc i) n (program_page d w k i s) ∙ length-program_page d w k i s

-- Programming a block keeps it.
pub length-program_block : (d : Device) (w : List ℕ) (k : ℕ) (s : List ℕ) → length (program_block d w k s) ≡ length s
unfolding program_block
length-program_block d w k s = length-program_pages d w k 0 (length w) (erase d k s) ∙ length-erase d k s

-- Two stretches of n places, numbers a and b, of which the second is stored: a place in the first lies below or above it.
apart : (n a b r : ℕ) → a ≢ b → r < n → (a * n + r < b * n) ⊎ (b * n + n ≤ a * n + r)
apart n a b r h l = go (ltb a b) refl
  where
    go : (t : Bool) → ltb a b ≡ t → (a * n + r < b * n) ⊎ (b * n + n ≤ a * n + r)
    go true e = inl (omega (arith, mul-le-mul_right n (ltb-true a b e)))
    go false e =
        let m : b ≤ a = ltb-false a b e in
        let m' : suc b ≤ a = omega arith in
        inr (omega (arith, mul-le-mul_right n m'))

-- what is stored into stretch b keeps the places of stretch a
store_apart : (s vs : List ℕ) (n a b r : ℕ) → length vs ≤ n → a ≢ b → r < n → get_or (store s (b * n) vs) (a * n + r) nobody ≡ get_or s (a * n + r) nobody
store_apart s vs n a b r e h l = go (apart n a b r h l)
  where
    go : (a * n + r < b * n) ⊎ (b * n + n ≤ a * n + r) → get_or (store s (b * n) vs) (a * n + r) nobody ≡ get_or s (a * n + r) nobody
    go (inl k) = get_or-store-below s (b * n) vs (a * n + r) nobody k
    go (inr k) = get_or-store-above s (b * n) vs (a * n + r) nobody (omega arith)

-- After an erase the block's entries name nobody.
pub erased : (d : Device) (k : ℕ) (s : List ℕ) (i j : ℕ) → k < d.M → i < d.B → j < entries_per_page d → length s ≡ spare_length d → entry d (erase d k s) (first_page d k + i) j ≡ nobody
unfolding entry erase
erased d k s i j h l m e =
    let b : i * entries_per_page d + j < entries_per_block d = entry-in_block d i j l m in
    rw (entry_place_lem d k i j)
    (get_or-store s (k * entries_per_block d) (replicate (entries_per_block d) nobody) (i * entries_per_page d + j) nobody (rw length-replicate b) (omega (arith, block_in_spare d k h))
    ∙ get_or-replicate (entries_per_block d) (i * entries_per_page d + j) nobody nobody b)

-- An erase keeps the entries of every other block.
pub erase_other : (d : Device) (k k' : ℕ) (s : List ℕ) (i j : ℕ) → k' ≢ k → i < d.B → j < entries_per_page d → entry d (erase d k s) (first_page d k' + i) j ≡ entry d s (first_page d k' + i) j
unfolding entry erase
erase_other d k k' s i j n h m =
    rw (entry_place_lem d k' i j)
    (store_apart s (replicate (entries_per_block d) nobody) (entries_per_block d) k' k (i * entries_per_page d + j) (omega (arith, length-replicate (entries_per_block d) nobody)) n (entry-in_block d i j h m))

pub length_ruled : (d : Device) (w : List ℕ) (i j n : ℕ) → length (ruled_entries d w i j n) ≡ n
unfolding ruled_entries
length_ruled d w i j zero = refl
length_ruled d w i j (suc n) = ap suc (length_ruled d w i (suc j) n)

get_or_ruled : (d : Device) (w : List ℕ) (i j n x : ℕ) → x < n → get_or (ruled_entries d w i j n) x nobody ≡ entry_rule d w i (j + x)
unfolding ruled_entries
get_or_ruled d w i j zero x h = absurd (omega arith)
get_or_ruled d w i j (suc n) zero h = let e : j + 0 ≡ j = omega arith in rw e
get_or_ruled d w i j (suc n) (suc x) h = let e : j + suc x ≡ suc j + x = omega arith in rw e (get_or_ruled d w i (suc j) n x (omega arith))

-- A programmed page's entries keep to the entry rule ..
program_page-entry : (d : Device) (w : List ℕ) (k i : ℕ) (s : List ℕ) (j : ℕ) → k < d.M → i < d.B → j < names_per_page d → length s ≡ spare_length d → entry d (program_page d w k i s) (first_page d k + i) j ≡ entry_rule d w i j
unfolding entry program_page
program_page-entry d w k i s j h l m e =
    let b : (first_page d k + i) * entries_per_page d + j < length s = omega (arith, entry_place_lem d k i j, entry-in_block d i j l (omega (arith, m, names-inside d)), block_in_spare d k h) in
    get_or-store s ((first_page d k + i) * entries_per_page d) (ruled_entries d w i 0 (names_per_page d)) j nobody (rw length_ruled m) b
    ∙ get_or_ruled d w i 0 (names_per_page d) j m
    ∙ ap (entry_rule d w i) (zero-add j)

-- .. and every other page keeps its own.
program_page_other : (d : Device) (w : List ℕ) (k i : ℕ) (s : List ℕ) (p j : ℕ) → p ≢ first_page d k + i → j < entries_per_page d → entry d (program_page d w k i s) p j ≡ entry d s p j
unfolding entry program_page
program_page_other d w k i s p j n m =
    store_apart s (ruled_entries d w i 0 (names_per_page d)) (entries_per_page d) p (first_page d k + i) j (omega (arith, length_ruled d w i 0 (names_per_page d), names-inside d)) n m

-- so with several pages
program_pages_other : (d : Device) (w : List ℕ) (k i n : ℕ) (s : List ℕ) (p j : ℕ) → ((y : ℕ) → i ≤ y → y < i + n → p ≢ first_page d k + y) → j < entries_per_page d → entry d (program_pages d w k i n s) p j ≡ entry d s p j
unfolding program_pages
program_pages_other d w k i zero s p j f m = refl
program_pages_other d w k i (suc n) s p j f m =
    program_pages_other d w k (suc i) n (program_page d w k i s) p j (λ y a b. f y (omega arith) (omega arith)) m
    ∙ program_page_other d w k i s p j (f i (omega arith) (omega arith)) m

program_pages-entry : (d : Device) (w : List ℕ) (k i n : ℕ) (s : List ℕ) (x j : ℕ) → k < d.M → i + n ≤ d.B → i ≤ x → x < i + n → j < names_per_page d → length s ≡ spare_length d → entry d (program_pages d w k i n s) (first_page d k + x) j ≡ entry_rule d w x j
unfolding program_pages
program_pages-entry d w k i zero s x j h b a c m e = absurd (omega arith)
program_pages-entry d w k i (suc n) s x j h b a c m e = go (le_cases i x a) (λ l. program_pages-entry d w k (suc i) n (program_page d w k i s) x j h (omega arith) l (omega arith) m (length-program_page d w k i s ∙ e))
  where
    go : (x ≡ i) ⊎ (suc i ≤ x) → (suc i ≤ x → entry d (program_pages d w k (suc i) n (program_page d w k i s)) (first_page d k + x) j ≡ entry_rule d w x j) → entry d (program_pages d w k (suc i) n (program_page d w k i s)) (first_page d k + x) j ≡ entry_rule d w x j
    go (inl q) ih = rw q (program_pages_other d w k (suc i) n (program_page d w k i s) (first_page d k + i) j (λ y l r z. absurd (omega arith)) (omega (arith, m, names-inside d)) ∙ program_page-entry d w k i s j h (omega arith) m e)
    go (inr l) ih = ih l

-- The entries of a block's written pages keep to the entry rule.
pub program_block-entry : (d : Device) (w : List ℕ) (k : ℕ) (s : List ℕ) (i j : ℕ) → k < d.M → length w ≤ d.B → i < length w → j < names_per_page d → length s ≡ spare_length d → entry d (program_block d w k s) (first_page d k + i) j ≡ entry_rule d w i j
unfolding program_block
program_block-entry d w k s i j h b l m e = program_pages-entry d w k 0 (length w) (erase d k s) i j h (omega arith) (omega arith) (omega arith) m (length-erase d k s ∙ e)

-- The entries of the block's pages behind those name nobody.
pub program_block-rest : (d : Device) (w : List ℕ) (k : ℕ) (s : List ℕ) (i j : ℕ) → k < d.M → length w ≤ i → i < d.B → j < entries_per_page d → length s ≡ spare_length d → entry d (program_block d w k s) (first_page d k + i) j ≡ nobody
unfolding program_block
program_block-rest d w k s i j h l b m e =
    program_pages_other d w k 0 (length w) (erase d k s) (first_page d k + i) j (λ y a c z. absurd (omega arith)) m ∙ erased d k s i j h b m e

-- Programming a block keeps the entries of every other block.
pub program_block_other : (d : Device) (w : List ℕ) (k k' : ℕ) (s : List ℕ) (i j : ℕ) → length w ≤ d.B → k' ≢ k → i < d.B → j < entries_per_page d → entry d (program_block d w k s) (first_page d k' + i) j ≡ entry d s (first_page d k' + i) j
unfolding program_block
program_block_other d w k k' s i j b n h m =
    program_pages_other d w k 0 (length w) (erase d k s) (first_page d k' + i) j (λ y a c. page-apart d k k' y i n (omega arith) h) m ∙ erase_other d k k' s i j n h m
