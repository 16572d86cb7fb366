-- A format gives the page map's invariant; writes on the lowest-numbered free block keep it, and so does erasing blocks on which
-- nothing lies. Assumes nothing.
use mathlib.Core.Path.{◌≡◌, refl, sym, ◌∙◌, ap}
use mathlib.Core.List.{List, [], ◌∷◌}
use mathlib.Core.Option.{Option, some}
use mathlib.Core.Logic.{◌≢◌}
use mathlib.Core.Bool.{true≢false, true, false}
use Prim.Native.Nat.{ℕ, ◌+◌, ◌/◌, ◌%◌, ◌≤◌, ◌<◌, min}
use native.Mathlib.Omega.{arith}
use lib.ListN.{length, get_or, set, length-set, length-replicate}
use lib.Seq.{get_or-set_same, get_or-set_other}
use Rattle.model.specs.Lists.{elem, distinct}
use Rattle.model.specs.Device.{Device, within_limits, first_page}
use Rattle.model.specs.Learning.{Write, logicals}
use Rattle.model.specs.State.{free_blocks, lowest_in}
use Rattle.model.proofs.Bools.{is_false}
use Rattle.model.proofs.Lists.{elem_here, elem_there}
use Rattle.model.proofs.Counting.{distinct_head, distinct_tail}
use Rattle.model.proofs.Blocks.{lowest_free_lem, free-clear, free-fill}
use Rattle.model.proofs.Limits.{page-block, page-split}
use Rattle.model.proofs.Sorting.{logicals-length}
use Rattle.calls.specs.Choice.{first_of}
use Rattle.calls.specs.PageMap.{PageMap, spot, write_counts, map_write, clear_counts, map_erase, blank_map}
use Rattle.calls.proofs.Moves.{Writable}
use Rattle.calls.proofs.Placing.{Spot, elsewhere, there, spot_view}
use Rattle.calls.proofs.MapInvariant.{MapInv}

-- After a format nothing lies anywhere.
pub blank_map_lem : (d : Device) → within_limits d ≡ true → MapInv (blank_map d)
unfolding blank_map
blank_map_lem d h = record {
  limits = h;
  counted = length-replicate d.M 0;
  written = λ x p l e. let z : ◌≡◌ {A = ℕ} 0 1 = cc in absurd (omega arith);
  alone = λ x y p l k e f. let z : ◌≡◌ {A = ℕ} 0 1 = cc in absurd (omega arith);
}

module _ (m : PageMap) (v : MapInv m) where
  -- Nothing lies on a free block.
  pub off_free : (k : ℕ) → get_or m.counts k 0 ≡ 0 → (x p : ℕ) → x < m.device.N → m.place x ≡ some p → p / m.device.B ≢ k
  off_free k z x p h e q = absurd (omega (arith, v.written x p h e, ap (λ (j : ℕ). get_or m.counts j 0) q))

  module _ (ws : List Write) (r : Writable m.device ws) (f : 1 ≤ length (free_blocks 0 m.counts)) where
    abbrev k : ℕ
    k = lowest_in m.counts

    abbrev place' : ℕ → Option ℕ
    place' x = spot x (first_page m.device k) (logicals ws) (m.place x)

    abbrev counts' : List ℕ
    counts' = set m.counts k (length ws)

    -- page i of block k, where i is one of the places written
    new-page : (i p : ℕ) → i < length (logicals ws) → first_page m.device k + i ≡ p → (p / m.device.B ≡ k) × (p % m.device.B < get_or counts' k 0)
    new-page i p h e =
        let b : i < m.device.B = omega (arith, logicals-length ws, r.fits) in
        let q : p / m.device.B ≡ k = ap (λ (j : ℕ). j / m.device.B) (sym e) ∙ page-block m.device k i b in
        let c : get_or counts' k 0 ≡ length ws = get_or-set_same m.counts k (length ws) 0 (lowest_free_lem m.counts f).0 in
        (q, omega (arith, rw q at (page-split m.device p), logicals-length ws))

    -- where something lay is not on block k
    old_page : (x p : ℕ) → x < m.device.N → m.place x ≡ some p → p / m.device.B ≢ k
    old_page = off_free k (lowest_free_lem m.counts f).1

    filled : MapInv (record { device = m.device; counts = counts'; place = place'; discarded = m.discarded })
    filled = record {
      limits = v.limits;
      counted = length-set m.counts k (length ws) ∙ v.counted;
      written = λ x p h e. written x p h (place' x) (spot_view x (first_page m.device k) (logicals ws) (m.place x)) e;
      alone = λ x y p h g e f. alone x y p h g (place' x) (place' y) (spot_view x (first_page m.device k) (logicals ws) (m.place x)) (spot_view y (first_page m.device k) (logicals ws) (m.place y)) e f;
    }
      where
        written : (x p : ℕ) → x < m.device.N → (o : Option ℕ) → Spot x (first_page m.device k) (logicals ws) (m.place x) o → o ≡ some p → p % m.device.B < get_or counts' (p / m.device.B) 0
        written x p h o (elsewhere n) e = rw (get_or-set_other m.counts k (p / m.device.B) (length ws) 0 (old_page x p h e)) (v.written x p h e)
        written x p h o (there i b c) e = let n = new-page i p b (cc) in rw n.0 n.1

        alone : (x y p : ℕ) → x < m.device.N → y < m.device.N → (o u : Option ℕ) → Spot x (first_page m.device k) (logicals ws) (m.place x) o → Spot y (first_page m.device k) (logicals ws) (m.place y) u
            → o ≡ some p → u ≡ some p → x ≡ y
        alone x y p h g o u (elsewhere n) (elsewhere l) e f = v.alone x y p h g e f
        alone x y p h g o u (elsewhere n) (there j b c) e f = absurd (old_page x p h e (new-page j p b (cc)).0)
        alone x y p h g o u (there i a d) (elsewhere l) e f = absurd (old_page y p g f (new-page i p a (cc)).0)
        alone x y p h g o u (there i a d) (there j b c) e f =
            let q : first_page m.device k + i ≡ p = cc in
            let r : first_page m.device k + j ≡ p = cc in
            let s : i ≡ j = omega arith in
            sym d ∙ ap (λ (l : ℕ). get_or (logicals ws) l 0) s ∙ c

  -- Writes on the lowest-numbered free block keep the invariant; none is needed for none.
  pub write-map : (ws : List Write) → Writable m.device ws → (1 ≤ length ws → 1 ≤ length (free_blocks 0 m.counts)) → MapInv (map_write ws m)
  unfolding map_write write_counts first_of logicals spot
  write-map [] r f = v
  write-map (w ∷ ws) r f = filled (w ∷ ws) r (f (omega arith))

clear-length : (ks counts : List ℕ) → length (clear_counts ks counts) ≡ length counts
unfolding clear_counts
clear-length [] counts = refl
clear-length (k ∷ ks) counts = clear-length ks (set counts k 0) ∙ length-set counts k 0

-- a block that isn't erased keeps its count
clear_other : (ks counts : List ℕ) (j : ℕ) → elem j ks ≡ false → get_or (clear_counts ks counts) j 0 ≡ get_or counts j 0
unfolding clear_counts
clear_other [] counts j n = refl
clear_other (k ∷ ks) counts j n =
    clear_other ks (set counts k 0) j (is_false _ (λ h. true≢false (sym (elem_there j k ks h) ∙ n)))
    ∙ get_or-set_other counts k j 0 0 (λ e. true≢false (sym (elem_here k ks) ∙ ap (λ (i : ℕ). elem i (k ∷ ks)) (sym e) ∙ n))

-- Every used block that is erased is one more free block.
pub clear-free : (ks counts : List ℕ) → distinct ks ≡ true → ((k : ℕ) → elem k ks ≡ true → (k < length counts) × (get_or counts k 0 ≢ 0))
    → length (free_blocks 0 (clear_counts ks counts)) ≡ length (free_blocks 0 counts) + length ks
unfolding clear_counts
clear-free [] counts d u = omega arith
clear-free (k ∷ ks) counts d u =
    omega (arith, clear-free ks (set counts k 0) (distinct_tail k ks d) (λ j h. still j h (u j (elem_there j k ks h))), free-clear counts k (u k (elem_here k ks)).0 (u k (elem_here k ks)).1)
  where
    still : (j : ℕ) → elem j ks ≡ true → (j < length counts) × (get_or counts j 0 ≢ 0) → (j < length (set counts k 0)) × (get_or (set counts k 0) j 0 ≢ 0)
    still j h n =
        let o : j ≢ k = λ e. true≢false (sym h ∙ ap (λ (i : ℕ). elem i ks) e ∙ distinct_head k ks d) in
        (omega (arith, n.0, length-set counts k 0), λ e. n.1 (sym (get_or-set_other counts k j 0 0 o) ∙ e))

-- Erasing blocks on which nothing lies keeps the invariant.
pub erase-map : (m : PageMap) → MapInv m → (ks : List ℕ) → ((x p : ℕ) → x < m.device.N → m.place x ≡ some p → elem (p / m.device.B) ks ≡ false) → MapInv (map_erase ks m)
unfolding map_erase
erase-map m v ks off = record {
  limits = v.limits;
  counted = clear-length ks m.counts ∙ v.counted;
  written = λ x p h e. rw (clear_other ks m.counts (p / m.device.B) (off x p h e)) (v.written x p h e);
  alone = v.alone;
}

-- Writes take one free block; none is needed for none.
pub write-free : (ws : List Write) (counts : List ℕ) → (1 ≤ length ws → 1 ≤ length (free_blocks 0 counts))
    → length (free_blocks 0 (write_counts ws counts)) + min 1 (length ws) ≡ length (free_blocks 0 counts)
unfolding write_counts
write-free [] counts f = omega arith
write-free (w ∷ ws) counts f =
    let l = lowest_free_lem counts (f (omega arith)) in
    omega (arith, free-fill counts (lowest_in counts) (length (w ∷ ws)) l.0 l.1 (λ e. absurd (omega arith)))

-- A used block keeps its count.
pub write-used : (ws : List Write) (counts : List ℕ) (k : ℕ) → (1 ≤ length ws → 1 ≤ length (free_blocks 0 counts)) → (k < length counts) × (get_or counts k 0 ≢ 0)
    → (k < length (write_counts ws counts)) × (get_or (write_counts ws counts) k 0 ≢ 0)
unfolding write_counts
write-used [] counts k f u = u
write-used (w ∷ ws) counts k f u =
    let o : k ≢ lowest_in counts = λ e. u.1 (ap (λ (j : ℕ). get_or counts j 0) e ∙ (lowest_free_lem counts (f (omega arith))).1) in
    (omega (arith, u.0, length-set counts (lowest_in counts) (length (w ∷ ws))), λ e. u.1 (sym (get_or-set_other counts (lowest_in counts) k (length (w ∷ ws)) 0 o) ∙ e))
