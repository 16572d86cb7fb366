-- Every call keeps what holds between table and page map. Assumes nothing.
use mathlib.Core.Path.{◌≡◌, refl, sym, ◌∙◌, ap}
use mathlib.Core.List.{List, [], ◌∷◌}
use mathlib.Core.Bool.{Bool, true, false}
use Prim.Native.Nat.{ℕ, ◌+◌, ◌-◌, ◌≤◌, ◌<◌}
use native.Mathlib.Omega.{arith}
use lib.Dec.{leb, eqb}
use lib.ListN.{length, get_or, set, replicate, length-set, length-replicate}
use lib.Seq.{get_or-set_same, get_or-set_other}
use borrow.Author.Tests.{le-leb, eqb-true, eqb-false}
use Rattle.model.specs.Lists.{all}
use Rattle.model.specs.Device.{Device, within_limits}
use Rattle.model.specs.Learning.{Write, logicals}
use Rattle.model.specs.State.{free_blocks, lowest_in}
use Rattle.model.proofs.Lists.{At, elem_at, all_each, replicate_at}
use Rattle.model.proofs.Counting.{asc_distinct}
use Rattle.model.proofs.Blocks.{lowest_free_lem}
use Rattle.model.proofs.Limits.{page-inside}
use Rattle.model.proofs.Sorting.{logicals-length}
use Rattle.calls.specs.Choice.{blocks_of, first_of}
use Rattle.calls.specs.PageMap.{PageMap, spot, map_victims, map_moves, write_counts, map_write, map_clear, place_discard, map_discard, clear_counts, map_erase, blank_map}
use Rattle.calls.proofs.Moves.{Writable}
use Rattle.calls.proofs.MapWriting.{blank_map_lem, write-map}
use Rattle.calls.proofs.MapCollecting.{moves-fit, collect-map}
use Rattle.calls.proofs.MapDiscarding.{discard_other, discard-map, clear-map}
use Rattle.calls.proofs.Writing.{counts-set}
use Rattle.plain.specs.Table.{no_page, page_of}
use Rattle.plain.specs.Calls.{enter}
use Rattle.plain.proofs.Entries.{names_none, enter-length, enter-names}
use Rattle.plain.proofs.Invariant.{Inv, pages-below}

-- A format gives it.
pub blank_inv : (d : Device) → within_limits d ≡ true → Inv (blank_map d) (replicate d.N no_page)
unfolding blank_map
blank_inv d h = record {
  map = blank_map_lem d h;
  full = all_each (λ c. leb c d.B) (replicate d.M 0) (λ c e. zero c (elem_at c _ e));
  sized = length-replicate d.N no_page;
  names = λ x l. ap page_of (replicate_at d.N x no_page) ∙ names_none;
}
  where
    zero : (c : ℕ) → At c (replicate d.M 0) → leb c d.B ≡ true
    zero c a = le-leb c d.B (omega (arith, a.here, replicate_at {A = ℕ} d.M a.index 0))

-- clearing marks changes nothing of it
clear_inv : (m : PageMap) (es batch : List ℕ) → Inv m es → Inv (map_clear batch m) es
unfolding map_clear
clear_inv m es batch v = record { map = clear-map m v.map batch; full = v.full; sized = v.sized; names = v.names }

-- counts of pages that fit a block
write-full : (b : ℕ) (ws : List Write) (counts : List ℕ) → length ws ≤ b → all (λ c. leb c b) counts ≡ true → all (λ c. leb c b) (write_counts ws counts) ≡ true
unfolding write_counts
write-full b [] counts h a = a
write-full b (w ∷ ws) counts h a = counts-set b counts (lowest_in counts) (length (w ∷ ws)) h a

clear-full : (b : ℕ) (ks counts : List ℕ) → all (λ c. leb c b) counts ≡ true → all (λ c. leb c b) (clear_counts ks counts) ≡ true
unfolding clear_counts
clear-full b [] counts a = a
clear-full b (k ∷ ks) counts a = clear-full b ks (set counts k 0) (counts-set b counts k 0 (omega arith) a)

-- the pages written are pages of the device
write-inside : (m : PageMap) (es : List ℕ) → Inv m es → (ws : List Write) → Writable m.device ws → (1 ≤ length ws → 1 ≤ length (free_blocks 0 m.counts))
    → first_of ws m.device m.counts + length (logicals ws) ≤ no_page
unfolding first_of logicals
write-inside m es v [] r f = omega arith
write-inside m es v (w ∷ ws) r f =
    let d : Device = m.device in
    let k : ℕ = lowest_in m.counts in
    let n : ℕ = length (w ∷ ws) in
    let free : k < d.M = omega (arith, (lowest_free_lem m.counts (f (omega arith))).0, v.map.counted) in
    omega (arith, page-inside d k (n - 1) free (omega (arith, r.fits)), pages-below d v.map.limits, logicals-length ws)

module _ (m : PageMap) (es : List ℕ) (v : Inv m es) where
  -- Writes on the lowest-numbered free block keep it ..
  pub write_inv : (ws : List Write) → Writable m.device ws → (1 ≤ length ws → 1 ≤ length (free_blocks 0 m.counts))
      → Inv (map_write ws m) (enter (first_of ws m.device m.counts) (logicals ws) es)
  unfolding map_write
  write_inv ws r f =
      let p : ℕ = first_of ws m.device m.counts in
      record {
        map = write-map m v.map ws r f;
        full = write-full m.device.B ws m.counts r.fits v.full;
        sized = enter-length p (logicals ws) es ∙ v.sized;
        names = λ x h.
            enter-names p (logicals ws) es (asc_distinct r.ascends) (λ y t. omega (arith, r.logical y t, v.sized)) (write-inside m es v ws r f) x
            ∙ ap (spot x p (logicals ws)) (v.names x h);
      }

  -- .. a discard keeps it ..
  pub discard_inv : (x : ℕ) → x < m.device.N → Inv (map_discard x m) (set es x no_page)
  unfolding map_discard place_discard
  discard_inv x b = record {
    map = discard-map m v.map x;
    full = v.full;
    sized = length-set es x no_page ∙ v.sized;
    names = λ y h. names y h (eqb y x) refl;
  }
    where
      names : (y : ℕ) → y < m.device.N → (t : Bool) → eqb y x ≡ t → page_of (get_or (set es x no_page) y no_page) ≡ place_discard x m.place y
      names y h true e =
          rw (e, place_discard) (ap (λ (z : ℕ). page_of (get_or (set es x no_page) z no_page)) (eqb-true y x e) ∙ ap page_of (get_or-set_same es x no_page no_page (omega (arith, v.sized))) ∙ names_none)
      names y h false e = ap page_of (get_or-set_other es x y no_page no_page (eqb-false y x e)) ∙ v.names y h ∙ sym (discard_other x m.place y e)

  -- .. and so does a collection.
  pub collect_inv : (1 ≤ length (map_moves m) → 1 ≤ length (free_blocks 0 m.counts))
      → Inv (map_erase (blocks_of (map_victims m)) (map_write (map_moves m) m)) (enter (first_of (map_moves m) m.device m.counts) (logicals (map_moves m)) es)
  unfolding map_erase map_write
  collect_inv f =
      let w = write_inv (map_moves m) (moves-fit m v.map) f in
      record { map = collect-map m v.map f; full = clear-full m.device.B (blocks_of (map_victims m)) _ w.full; sized = w.sized; names = w.names }

-- A flush keeps it.
pub flush_inv : (m : PageMap) (es : List ℕ) → Inv m es → (batch : List ℕ) (ws : List Write) → Writable m.device ws → 1 ≤ length (free_blocks 0 m.counts)
    → Inv (map_write ws (map_clear batch m)) (enter (first_of ws m.device m.counts) (logicals ws) es)
unfolding map_clear
flush_inv m es v batch ws r f = write_inv (map_clear batch m) es (clear_inv m es batch v) ws r (λ n. f)
