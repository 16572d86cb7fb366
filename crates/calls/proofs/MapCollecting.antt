-- A collection on the page map: what lies on the blocks taken is moved, then nothing lies there and they are erased; where it gains
-- something, at least two blocks are free afterwards. Assumes nothing.
use mathlib.Core.Path.{◌≡◌, sym, ◌∙◌, ap}
use mathlib.Core.List.{List, [], ◌∷◌, ◌++◌}
use mathlib.Core.Option.{Option, some}
use mathlib.Core.Logic.{◌≢◌, ◌⊎◌, inl, inr}
use mathlib.Core.Bool.{true≢false, true, false, not}
use Prim.Native.Nat.{ℕ, ◌+◌, ◌/◌, ◌≤◌, ◌<◌}
use native.Mathlib.Omega.{arith}
use lib.ListN.{length, get_or}
use Rattle.model.specs.Lists.{elem, distinct}
use Rattle.model.specs.Learning.{Write, logicals, sources}
use Rattle.model.specs.State.{free_blocks, lowest_in}
use Rattle.model.specs.Sound.{is_empty}
use Rattle.model.proofs.Bools.{is_false}
use Rattle.model.proofs.Lists.{le_cases, At, elem_at}
use Rattle.model.proofs.Counting.{pigeonhole}
use Rattle.model.proofs.Blocks.{lowest_free_lem}
use Rattle.model.proofs.Limits.{limits, page-block}
use Rattle.model.proofs.Sorting.{logicals-length}
use Rattle.calls.specs.Choice.{Used, blocks_of, pages_of, first_of, no_gain}
use Rattle.calls.specs.PageMap.{PageMap, is_some, logical_on, map_victims, map_moves, write_counts, map_write, clear_counts, map_erase}
use Rattle.calls.proofs.Choosing.{victim_used, victims-distinct}
use Rattle.calls.proofs.Moves.{Writable, moves-ready, move_lies, not_moved, moves-taken}
use Rattle.calls.proofs.Placing.{Spot, elsewhere, there, spot_view, first_of_lem}
use Rattle.calls.proofs.MapInvariant.{MapInv, owner-names}
use Rattle.calls.proofs.MapWriting.{write-map, erase-map, clear-free, write-free, write-used}

-- where there is something to gain, a block is taken, and two if there are pages to move
gain_taken : (l : List Used) → no_gain l ≡ false → (1 ≤ length (blocks_of l)) × (1 ≤ length (pages_of l) → 2 ≤ length (blocks_of l))
unfolding no_gain blocks_of pages_of is_empty
gain_taken [] h = absurd (true≢false h)
gain_taken (u ∷ []) h = (omega arith, λ k. absurd (none_left u.pages h k))
  where
    none_left : (ps : List ℕ) → not (is_empty ps) ≡ false → 1 ≤ length (ps ++ []) → ⊥
    none_left [] h k = omega arith
    none_left (p ∷ ps) h k = true≢false h
gain_taken (u ∷ w ∷ l) h = (omega arith, λ k. omega arith)

module _ (m : PageMap) (v : MapInv m) where
  -- the pages moved, and the blocks taken
  abbrev mv : List Write
  mv = map_moves m

  abbrev ks : List ℕ
  ks = blocks_of (map_victims m)

  -- A block can take what is moved.
  pub moves-fit : Writable m.device (map_moves m)
  moves-fit = moves-ready m.device m.place _ _ (owner-names m v) m.counts

  -- A logical page that is moved lies somewhere.
  pub move-place : (x : ℕ) → elem x (logicals mv) ≡ true → (x < m.device.N) × ((p : ℕ) × (m.place x ≡ some p))
  move-place x t = go (elem_at x (logicals mv) t)
    where
      go : At x (logicals mv) → (x < m.device.N) × ((p : ℕ) × (m.place x ≡ some p))
      go a =
          let l = move_lies m.device m.place _ _ (owner-names m v) m.counts a.index (omega (arith, a.inside, logicals-length mv)) in
          (rw a.here at l.2, (get_or (sources mv) a.index 0, rw a.here at l.0))

  -- A block that is taken is a used one of the device.
  pub taken-used : (k : ℕ) → elem k ks ≡ true → (k < length m.counts) × (get_or m.counts k 0 ≢ 0)
  taken-used = victim_used (λ p. is_some (logical_on m p)) m.device m.counts

  taken-distinct : distinct ks ≡ true
  taken-distinct = victims-distinct (λ p. is_some (logical_on m p)) m.device m.counts

  -- No more blocks are taken than there are.
  pub taken-fit : length ks ≤ m.device.M
  taken-fit = pigeonhole m.device.M ks taken-distinct (λ k h. rw (← v.counted) (taken-used k h).0)

  module _ (f : 1 ≤ length mv → 1 ≤ length (free_blocks 0 m.counts)) where
    -- After the moves nothing lies on a block taken.
    pub moved_off : (x p : ℕ) → x < m.device.N → (map_write mv m).place x ≡ some p → elem (p / m.device.B) ks ≡ false
    unfolding map_write
    moved_off x p h e = go ((map_write mv m).place x) (spot_view x first (logicals mv) (m.place x)) e
      where
        first : ℕ
        first = first_of mv m.device m.counts

        go : (o : Option ℕ) → Spot x first (logicals mv) (m.place x) o → o ≡ some p → elem (p / m.device.B) ks ≡ false
        go o (elsewhere n) q = not_moved m.device m.place _ _ (owner-names m v) m.counts (omega (arith, (limits m.device v.limits).least_B)) x p h q n
        go o (there i b c) q =
            let some_moved : 1 ≤ length mv = omega (arith, logicals-length mv) in
            let r : first + i ≡ p = cc in
            let k : p / m.device.B ≡ lowest_in m.counts =
            ap (λ (z : ℕ). z / m.device.B) (sym r ∙ ap (λ (z : ℕ). z + i) (first_of_lem mv m.device m.counts some_moved))
            ∙ page-block m.device (lowest_in m.counts) i (omega (arith, logicals-length mv, moves-fit.fits)) in
            is_false _ (λ t. (taken-used (p / m.device.B) t).1 (ap (λ (j : ℕ). get_or m.counts j 0) k ∙ (lowest_free_lem m.counts (f some_moved)).1))

    -- A collection keeps the invariant.
    pub collect-map : MapInv (map_erase ks (map_write mv m))
    unfolding map_write
    collect-map = erase-map (map_write mv m) (write-map m v mv moves-fit f) ks moved_off

    -- After a collection that gained something at least two blocks are free, if one was.
    pub collect-free : 1 ≤ length (free_blocks 0 m.counts) → no_gain (map_victims m) ≡ false → 2 ≤ length (free_blocks 0 (map_erase ks (map_write mv m)).counts)
    unfolding map_erase map_write
    collect-free one h = go (le_cases 0 (length mv) (omega arith)) (gain_taken (map_victims m) h)
      where
        erased : length (free_blocks 0 (clear_counts ks (write_counts mv m.counts))) ≡ length (free_blocks 0 (write_counts mv m.counts)) + length ks
        erased = clear-free ks (write_counts mv m.counts) taken-distinct (λ k u. write-used mv m.counts k f (taken-used k u))

        go : (length mv ≡ 0) ⊎ (1 ≤ length mv) → (1 ≤ length ks) × (1 ≤ length (pages_of (map_victims m)) → 2 ≤ length ks) → 2 ≤ length (free_blocks 0 (clear_counts ks (write_counts mv m.counts)))
        go (inl e) t = omega (arith, erased, write-free mv m.counts f, t.0)
        go (inr e) t = omega (arith, erased, write-free mv m.counts f, t.1 (omega (arith, moves-taken m.device m.place _ _ (owner-names m v) m.counts)))
