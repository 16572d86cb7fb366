-- What lies around the written pages holds their entries by the entry rule, so the pass over a block is made of it. Assumes nothing.
use mathlib.Core.Path.{◌≡◌, refl, sym, ◌∙◌, ap}
use mathlib.Core.List.{List, ◌∷◌, ◌++◌}
use mathlib.Core.Bool.{Bool, true, false}
use Prim.Native.Nat.{ℕ, zero, suc, ◌+◌, ◌*◌, ◌-◌, ◌≤◌, ◌<◌}
use native.Mathlib.Omega.{arith}
use lib.Dec.{ltb}
use lib.ListN.{length, get_or, take, drop, replicate, length-replicate, get_or-eq_default}
use lib.Seq.{drop-cons, take-length}
use borrow.Author.Tests.{ltb-true, ltb-false}
use Rattle.model.specs.Lists.{store}
use Rattle.model.specs.Device.{Device, names_per_page, entries_per_page, entries_per_block}
use Rattle.model.specs.Spare.{nobody, entry_rule, ruled_entries, pages_entries, block_entries, pass_block}
use Rattle.model.proofs.Lists.{length-store, get_or-store, get_or-store-below, get_or-store-above, replicate_at}
use Rattle.model.proofs.OnePass.{length-pages, in_block}
use Rattle.spare.specs.Around.{rows, Programmed}
use Rattle.spare.proofs.Programming.{stopped_append}

-- the first of equal elements
take-replicate : (n c : ℕ) (v : ℕ) → n ≤ c → take n (replicate c v) ≡ replicate n v
take-replicate zero c v h = refl
take-replicate (suc n) zero v h = absurd (omega arith)
take-replicate (suc n) (suc c) v h = ap (λ (l : List ℕ). v ∷ l) (take-replicate n c v (omega arith))

-- the written pages in z places, with entries that name nobody around them
abbrev surrounded : Device → List ℕ → ℕ → List ℕ
surrounded d w z = store (replicate z nobody) d.g w

module _ (d : Device) (w : List ℕ) (z : ℕ) (fits : length w + entries_per_page d ≤ z + 1) where
  room : d.g + length w ≤ z
  unfolding entries_per_page names_per_page
  room = omega arith

  long : length (surrounded d w z) ≡ z
  long = length-store (replicate z nobody) d.g w ∙ length-replicate z nobody

  -- entry j of page i stands at place i + j
  around_at : (i j : ℕ) → get_or (surrounded d w z) (i + j) nobody ≡ entry_rule d w i j
  unfolding entry_rule
  around_at i j = go (ltb (i + j) d.g) refl (ltb (i + j - d.g) (length w)) refl
    where
      go : (t : Bool) → ltb (i + j) d.g ≡ t → (u : Bool) → ltb (i + j - d.g) (length w) ≡ u → get_or (surrounded d w z) (i + j) nobody ≡ entry_rule d w i j
      go true y u v = rw (y, entry_rule) (get_or-store-below (replicate z nobody) d.g w (i + j) nobody (ltb-true (i + j) d.g y) ∙ replicate_at z (i + j) nobody)
      go false y true v =
          let f : d.g ≤ i + j = ltb-false (i + j) d.g y in
          let m : d.g + (i + j - d.g) ≡ i + j = omega arith in
          let l : i + j - d.g < length w = ltb-true (i + j - d.g) (length w) v in
          rw (y, entry_rule) (ap (λ (x : ℕ). get_or (surrounded d w z) x nobody) (sym m)
          ∙ get_or-store (replicate z nobody) d.g w (i + j - d.g) nobody l (rw length-replicate (omega (arith, room))))
      go false y false v =
          let f : d.g ≤ i + j = ltb-false (i + j) d.g y in
          let l : length w ≤ i + j - d.g = ltb-false (i + j - d.g) (length w) v in
          rw (y, entry_rule) (get_or-store-above (replicate z nobody) d.g w (i + j) nobody (omega arith) ∙ replicate_at z (i + j) nobody
          ∙ sym (get_or-eq_default w nobody l))

  -- so a page's entries are the places from its own on, ..
  row_ruled : (i j n : ℕ) → i + j + n ≤ z → take n (drop (i + j) (surrounded d w z)) ≡ ruled_entries d w i j n
  unfolding ruled_entries
  row_ruled i j zero h = refl
  row_ruled i j (suc n) h =
      let l : i + j < length (surrounded d w z) = omega (arith, long) in
      let m : suc (i + j) ≡ i + suc j = omega arith in
      rw (drop-cons (surrounded d w z) (i + j) nobody l, m, around_at i j) (ap (λ (r : List ℕ). entry_rule d w i j ∷ r) (row_ruled i (suc j) n (omega arith)))

  -- .. and so with several
  rows_ruled : (i c : ℕ) → i + c ≤ length w → rows (surrounded d w z) (entries_per_page d) i c ≡ pages_entries d w i c
  unfolding rows pages_entries entries_per_page
  rows_ruled i zero h = refl
  rows_ruled i (suc c) h =
      let m : i ≡ i + 0 = omega arith in
      let first : take (entries_per_page d) (drop i (surrounded d w z)) ≡ ruled_entries d w i 0 (entries_per_page d) =
      ap (λ (x : ℕ). take (entries_per_page d) (drop x (surrounded d w z))) m ∙ row_ruled i 0 (entries_per_page d) (omega arith) in
      rw (first, rows_ruled (suc i) c (omega arith)) refl

  -- the pass: as many of the written pages' entries as may be, and then of those that name nobody
  pub passed : (k stop n b : ℕ) (s around left done : List ℕ) (r : ℕ) → length w ≤ d.B → stop ≤ entries_per_block d → n ≡ entries_per_page d → b ≡ entries_per_block d
      → around ≡ store (replicate z nobody) d.g (take (length w) (drop 0 w))
      → Programmed around (length w) n (k * b) stop s left r
      → done ≡ store left (k * b + length w * n) (replicate r nobody) → done ≡ pass_block d w k stop s
  unfolding pass_block block_entries
  passed k stop n b s around left done r h l e f y p q =
      let c : ℕ = (d.B - length w) * entries_per_page d in
      let all : length w * n ≡ length w * entries_per_page d = ap (λ (x : ℕ). length w * x) e in
      let more : r ≤ c = omega (arith, p.0, all, in_block d w h) in
      let named : around ≡ surrounded d w z = y ∙ ap (λ (v : List ℕ). store (replicate z nobody) d.g v) (take-length w) in
      let ruled : rows around n 0 (length w) ≡ pages_entries d w 0 (length w) = rw (named, e) (rows_ruled 0 (length w) (omega arith)) in
      let size : length (pages_entries d w 0 (length w)) ≡ length w * n = length-pages d w 0 (length w) ∙ sym all in
      let whole : store s (k * b) (take stop (pages_entries d w 0 (length w) ++ replicate c nobody)) ≡ done =
      stopped_append s (k * b) stop (pages_entries d w 0 (length w)) (replicate c nobody)
      ∙ rw (size, ← p.0, take-replicate r c nobody more, ← ruled, ← p.1) (sym q) in
      sym whole ∙ ap (λ (x : ℕ). store s (k * x) (take stop (pages_entries d w 0 (length w) ++ replicate c nobody))) f
