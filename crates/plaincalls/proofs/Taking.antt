-- What a collection of a sound state takes and moves: the blocks, which the tally chooses, and the pages, which fit a block.
-- Assumes nothing.
use mathlib.Core.Path.{◌≡◌, refl, sym, ap, ◌∙◌, subst}
use mathlib.Core.List.{List, [], ◌∷◌}
use mathlib.Core.Logic.{◌≢◌}
use mathlib.Core.Bool.{true}
use Prim.Native.Nat.{ℕ, ◌*◌, ◌/◌, ◌≤◌, ◌<◌}
use native.Mathlib.Omega.{arith}
use native.Mathlib.Nat.{div-lt_iff_lt-mul, mul-le-mul}
use lib.Dec.{ltb}
use lib.ListN.{length, get_or, replicate}
use borrow.Author.Tests.{lt-ltb}
use Rattle.model.specs.Lists.{all, elem}
use Rattle.model.specs.Device.{Device, pages, within_limits}
use Rattle.model.specs.Learning.{Write, logicals}
use Rattle.model.specs.State.{free_blocks, lowest_in}
use Rattle.model.proofs.Lists.{all_each}
use Rattle.model.proofs.Blocks.{lowest_free_lem}
use Rattle.model.proofs.Limits.{limits}
use Rattle.calls.specs.Choice.{blocks_of}
use Rattle.calls.specs.PageMap.{clear_counts}
use Rattle.calls.proofs.Choosing.{victim_used}
use Rattle.calls.proofs.Moves.{Writable, moves-ready}
use Rattle.calls.proofs.MapInvariant.{owner-names}
use Rattle.choice.specs.Tally.{chosen}
use Rattle.choice.specs.Taking.{Chooses}
use Rattle.choice.proofs.Taken.{blocks-few}
use Rattle.choice.proofs.Totals.{total-victims}
use Rattle.choice.proofs.Victims.{chosen-victims}
use Rattle.plain.specs.Table.{Table, no_page, entry_at, page_of}
use Rattle.plain.specs.Calls.{victims, moves}
use Rattle.plain.proofs.Entries.{names-page}
use Rattle.plain.proofs.Invariant.{Inv, pages-below, counted}
use Rattle.plain.proofs.Choosing.{same_moves}
use Rattle.plain.proofs.Showing.{map_of, sound-shows}
use Rattle.plainstate.specs.Reading.{read_table}
use Rattle.plainstate.specs.Shaped.{Passed}
use Rattle.plainstate.specs.Tally.{tally_of}
use Rattle.plainstate.proofs.Shaping.{length-counts, length-entries}
use Rattle.plaincalls.specs.Passes.{passing, is_moved}
use Rattle.plaincalls.proofs.Kept.{moved_in, unmoved}
use Rattle.plaincalls.proofs.InOrder.{moves_pass}

-- the block of a page that an entry of a table names is one of the device's
named-block : (s : Table) → Inv (map_of s) s.entries → (x e : ℕ) → x < length s.entries → e ≡ get_or s.entries x no_page → e ≢ no_page → e / s.device.B < length s.counts
named-block s v x e h read n =
    let inside : x < s.device.N = let z : length s.entries ≡ s.device.N = v.sized in omega arith in
    let w = v.map.written x e inside (ap page_of (sym read) ∙ names-page e n) in
    counted s.counts (e / s.device.B) (omega (arith, w))

module _ (d : Device) (bytes : List ℕ) (v : Passed d (read_table bytes)) where
  abbrev s : Table
  s = read_table bytes

  -- the device's numbers are the table's
  same_B : s.device.B ≡ d.B
  same_B = ap (λ (e : Device). e.B) v.shape.numbers

  same_N : s.device.N ≡ d.N
  same_N = ap (λ (e : Device). e.N) v.shape.numbers

  -- The table shows a page map.
  pub shown : Inv (map_of s) s.entries
  shown =
      sound-shows s (ap within_limits v.shape.numbers ∙ v.shape.limits)
      (length-counts d bytes v.shape ∙ sym (ap (λ (e : Device). e.M) v.shape.numbers))
      (length-entries d bytes v.shape ∙ sym same_N) v.sound

  ready : Writable s.device (moves s)
  ready =
      subst (λ (ws : List Write). Writable s.device ws) (sym (same_moves (map_of s) s.entries shown))
      (moves-ready s.device (map_of s).place _ _ (owner-names (map_of s) shown.map) s.counts)

  -- No more pages are moved than a block has, and their logical pages are the device's.
  pub moves-few : length (moves s) ≤ d.B
  moves-few = omega (arith, ready.fits, same_B)

  pub moves-below : all (λ x. ltb x d.N) (logicals (moves s)) ≡ true
  moves-below = all_each (λ x. ltb x d.N) (logicals (moves s)) (λ x h. lt-ltb x d.N (omega (arith, ready.logical x h, same_N)))

  -- The blocks taken are the device's, and no more than it has.
  pub taken_in : (m : ℕ) → d.M ≤ m → all (λ k. ltb k m) (blocks_of (victims s)) ≡ true
  taken_in m h =
      all_each (λ k. ltb k m) (blocks_of (victims s))
      (λ k e. lt-ltb k m (omega (arith, (victim_used _ s.device s.counts k e).0, length-counts d bytes v.shape)))

  pub taken-few : length (blocks_of (victims s)) ≤ d.M
  taken-few = blocks-few _ s.device s.counts d.M (length-counts d bytes v.shape)

  -- The tally chooses them.
  pub chooses : Chooses (tally_of s) d.B (victims s)
  chooses = record {
    blocks =
        ap (chosen (tally_of s)) (sym same_B)
        ∙ chosen-victims _ s.device s.counts (omega (arith, same_B, (limits d v.shape.limits).most_B));
    pages = total-victims _ s.device s.counts;
  }

  -- An entry that names a page names one of a block of the device.
  pub entry-block : (x e : ℕ) → x < d.N → e ≡ entry_at s x → e ≢ no_page → e / d.B < d.M
  entry-block x e h read n =
      let u = named-block s shown x e (omega (arith, length-entries d bytes v.shape)) read n in
      let z : e / s.device.B ≡ e / d.B = ap (λ (b : ℕ). e / b) same_B in
      omega (arith, u, z, length-counts d bytes v.shape)

  -- The entries in the blocks that aren't kept are the moves.
  pub moves-kept : (n : ℕ) → d.M ≤ n → moves s ≡ passing (is_moved (clear_counts (blocks_of (victims s)) (replicate n 1)) d.B) 0 s.entries
  unfolding pages
  moves-kept n h = moves_pass (is_moved kept d.B) (unmoved kept d.B) s shown lies
    where
      kept : List ℕ
      kept = clear_counts (blocks_of (victims s)) (replicate n 1)

      lies : (p : ℕ) → p < pages s.device → is_moved kept d.B p ≡ elem (p / s.device.B) (blocks_of (victims s))
      lies p l =
          let q : p < d.M * d.B = rw v.shape.numbers at l in
          let b : 0 < d.B = omega (arith, (limits d v.shape.limits).least_B) in
          let k : p / d.B < d.M = (div-lt_iff_lt-mul b).1 q in
          moved_in n (blocks_of (victims s)) d.B p (λ z. omega (arith, q, pages-small)) (omega arith)
          ∙ ap (λ (c : ℕ). elem (p / c) (blocks_of (victims s))) (sym same_B)
        where
          pages-small : d.M * d.B ≤ no_page
          pages-small = pages-below d v.shape.limits

  -- So they are by any blocks that are those taken, and what clearing them left of as many 1s.
  pub moves-gathered : (n : ℕ) → d.M ≤ n → (blocks kept : List ℕ) → blocks ≡ blocks_of (victims s) → kept ≡ clear_counts blocks (replicate n 1)
      → moves s ≡ passing (is_moved kept d.B) 0 s.entries
  moves-gathered n h blocks kept e f =
      moves-kept n h
      ∙ ap (λ (l : List ℕ). passing (is_moved l d.B) 0 s.entries) (sym (f ∙ ap (λ (ks : List ℕ). clear_counts ks (replicate n 1)) e))

  -- The lowest-numbered free block is one of the device's, and its first page a small number.
  pub lowest-inside : (k : ℕ) → k ≡ lowest_in s.counts → k < d.M
  unfolding lowest_in
  lowest-inside k e = go (free_blocks 0 s.counts) refl
    where
      go : (l : List ℕ) → free_blocks 0 s.counts ≡ l → k < d.M
      go [] q =
          let z : k ≡ 0 = e ∙ rw q refl in
          omega (arith, (limits d v.shape.limits).least_M)
      go (f ∷ l) q = omega (arith, e, length-counts d bytes v.shape, (lowest_free_lem s.counts (rw q (omega arith))).0)

  pub first_small : (k : ℕ) → k < d.M → k * d.B ≤ 1048576
  first_small k h =
      let l = limits d v.shape.limits in
      let m : k ≤ 4096 = omega (arith, l.most_M) in
      mul-le-mul m l.most_B
