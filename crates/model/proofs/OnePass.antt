-- The pass that writes a block's entries a single time each: it erases and programs the block, and where it is stopped the entries so
-- far are final and all others as lent. Assumes nothing.
use mathlib.Core.Path.{◌≡◌, refl, sym, ◌∙◌, ap}
use mathlib.Core.List.{List, [], ◌∷◌, ◌++◌, append_assoc}
use mathlib.Core.Logic.{◌⊎◌, inl, inr}
use Prim.Native.Nat.{ℕ, zero, suc, ◌+◌, ◌*◌, ◌-◌, ◌≤◌, ◌<◌}
use native.Mathlib.Omega.{arith}
use lib.ListN.{length, get_or, set, take, replicate, length-append, length-replicate}
use lib.Seq.{take_all, take-suc, get_or-take, length-take-le}
use Rattle.model.specs.Lists.{store}
use Rattle.model.specs.Device.{Device, first_page, names_per_page, entries_per_page, entries_per_block, spare_length}
use Rattle.model.specs.Spare.{nobody, ruled_entries, erase, program_page, program_pages, program_block, pages_entries, block_entries, pass_block, OnePass, Stopped}
use Rattle.model.proofs.Lists.{store_nil, store_first, store_append, store-over, length-store, get_or-store, get_or-store-below, get_or-store-above}
use Rattle.model.proofs.Limits.{entry_place_lem, block_in_spare}
use Rattle.model.proofs.SpareArea.{length_ruled}

-- a list of equal elements in two parts
replicate_add : {A : Type 0} (m n : ℕ) (v : A) → replicate (m + n) v ≡ replicate m v ++ replicate n v
replicate_add zero n v = let e : 0 + n ≡ n = omega arith in rw e
replicate_add (suc m) n v = let e : suc m + n ≡ suc (m + n) = omega arith in rw e (ap (λ (l : List _). v ∷ l) (replicate_add m n v))

-- how many entries pages have, ..
pub length-pages : (d : Device) (w : List ℕ) (i n : ℕ) → length (pages_entries d w i n) ≡ n * entries_per_page d
unfolding pages_entries entries_per_page
length-pages d w i zero = omega arith
length-pages d w i (suc n) = simp (length-append, length_ruled) (omega (arith, length-pages d w (suc i) n))

module _ (d : Device) (w : List ℕ) (fits : length w ≤ d.B) where
  -- .. and a block, of written and of unused pages
  pub in_block : entries_per_block d ≡ length w * entries_per_page d + (d.B - length w) * entries_per_page d
  unfolding entries_per_block
  in_block =
      let m : d.B ≡ length w + (d.B - length w) = omega arith in
      ap (λ (b : ℕ). b * entries_per_page d) m ∙ omega arith

  length-block : length (block_entries d w) ≡ entries_per_block d
  unfolding block_entries
  length-block = simp (length-append, length-replicate) (omega (arith, length-pages d w 0 (length w), in_block))

  length_stopped : (n : ℕ) → n ≤ entries_per_block d → length (take n (block_entries d w)) ≡ n
  length_stopped n h = length-take-le n (block_entries d w) (omega (arith, length-block))

-- stopped before the first entry it has written nothing, ..
pass_none : (d : Device) (w : List ℕ) (k : ℕ) (s : List ℕ) → pass_block d w k 0 s ≡ s
unfolding pass_block
pass_none d w k s = store_nil s (k * entries_per_block d)

-- .. one entry later that one besides, ..
pass_next : (d : Device) (w : List ℕ) (k n : ℕ) (s : List ℕ) → length w ≤ d.B → n < entries_per_block d
    → pass_block d w k (suc n) s ≡ set (pass_block d w k n s) (k * entries_per_block d + n) (get_or (block_entries d w) n nobody)
unfolding pass_block
pass_next d w k n s h l =
    let more : n < length (block_entries d w) = omega (arith, length-block d w h) in
    let long : length (take n (block_entries d w)) ≡ n = length_stopped d w h n (omega arith) in
    ap (λ (v : List ℕ). store s (k * entries_per_block d) v) (take-suc (block_entries d w) n nobody more)
    ∙ store_append s (k * entries_per_block d) (take n (block_entries d w)) (get_or (block_entries d w) n nobody ∷ [])
    ∙ rw (long, store_first, store_nil) refl

-- pages programmed in a part of the block that was erased, from place a on, with c more entries behind them
programmed : (d : Device) (w : List ℕ) (k i n c a : ℕ) (s : List ℕ) → a ≡ (first_page d k + i) * entries_per_page d
    → program_pages d w k i n (store s a (replicate (n * entries_per_page d + c) nobody)) ≡ store s a (pages_entries d w i n ++ replicate c nobody)
unfolding program_pages program_page pages_entries entries_per_page
programmed d w k i zero c a s e = let z : 0 * names_per_page d + c ≡ c = omega arith in rw z
programmed d w k i (suc n) c a s e =
    let E : ℕ = names_per_page d in
    let r : List ℕ = ruled_entries d w i 0 E in
    let long : length r ≡ E = length_ruled d w i 0 E in
    let split : suc n * E + c ≡ E + (n * E + c) = omega arith in
    let first : store (store s a (replicate (suc n * E + c) nobody)) a r ≡ store (store s a r) (a + E) (replicate (n * E + c) nobody) =
    rw (split, replicate_add E (n * E + c) nobody) (store-over s a (replicate E nobody) (replicate (n * E + c) nobody) r (length-replicate E nobody ∙ sym long))
    ∙ store_append s a r (replicate (n * E + c) nobody) ∙ rw long refl in
    let at : a + E ≡ (first_page d k + suc i) * E = omega arith in
    ap (λ (t : List ℕ). program_pages d w k (suc i) n t) (rw (← e) first)
    ∙ programmed d w k (suc i) n c (a + E) (store s a r) at
    ∙ rw (append_assoc, store_append s a r, long) refl

-- .. and at the end it has erased and programmed the block.
pub pass_all : (d : Device) (w : List ℕ) (k : ℕ) (s : List ℕ) → length w ≤ d.B → pass_block d w k (entries_per_block d) s ≡ program_block d w k s
unfolding pass_block program_block erase block_entries
pass_all d w k s h =
    let first : k * entries_per_block d ≡ (first_page d k + 0) * entries_per_page d = omega (arith, entry_place_lem d k 0 0) in
    let whole : take (entries_per_block d) (block_entries d w) ≡ block_entries d w = take_all (entries_per_block d) (block_entries d w) (omega (arith, length-block d w h)) in
    ap (λ (l : List ℕ). store s (k * entries_per_block d) l) whole
    ∙ sym (ap (λ (n : ℕ). program_pages d w k 0 (length w) (store s (k * entries_per_block d) (replicate n nobody))) (in_block d w h)
    ∙ programmed d w k 0 (length w) ((d.B - length w) * entries_per_page d) (k * entries_per_block d) s first)

pub one_pass : (d : Device) (w : List ℕ) (k : ℕ) (s : List ℕ) → length w ≤ d.B → OnePass d w k s
one_pass d w k s h = record {
  starts = pass_none d w k s;
  next = λ n l. pass_next d w k n s h l;
  ends = pass_all d w k s h;
}

-- Stopped after n entries it leaves the block's first n final and every other as lent.
module _ (d : Device) (w : List ℕ) (k n : ℕ) (s : List ℕ) (h : k < d.M) (fits : length w ≤ d.B) (l : n ≤ entries_per_block d) (e : length s ≡ spare_length d) where
  -- an entry that was written is the block's, however far the pass went
  written : (m i : ℕ) → i < m → m ≤ entries_per_block d → get_or (pass_block d w k m s) (k * entries_per_block d + i) nobody ≡ get_or (block_entries d w) i nobody
  unfolding pass_block
  written m i y z =
      get_or-store s (k * entries_per_block d) (take m (block_entries d w)) i nobody (rw (length_stopped d w fits m z) y) (omega (arith, block_in_spare d k h))
      ∙ get_or-take m (block_entries d w) i nobody y

  final : (i : ℕ) → i < n → get_or (pass_block d w k n s) (k * entries_per_block d + i) nobody ≡ get_or (program_block d w k s) (k * entries_per_block d + i) nobody
  final i y =
      written n i y l ∙ sym (written (entries_per_block d) i (omega arith) (omega arith))
      ∙ ap (λ (t : List ℕ). get_or t (k * entries_per_block d + i) nobody) (pass_all d w k s fits)

  others : (p : ℕ) → (p < k * entries_per_block d) ⊎ (k * entries_per_block d + n ≤ p) → get_or (pass_block d w k n s) p nobody ≡ get_or s p nobody
  unfolding pass_block
  others p (inl y) = get_or-store-below s (k * entries_per_block d) (take n (block_entries d w)) p nobody y
  others p (inr y) = get_or-store-above s (k * entries_per_block d) (take n (block_entries d w)) p nobody (rw (length_stopped d w fits n l) y)

  pub pass_stopped : Stopped d w k n s (pass_block d w k n s)
  unfolding pass_block
  pass_stopped = record { long = length-store s (k * entries_per_block d) (take n (block_entries d w)); final = final; others = others }
