-- A collection, as the definitions do it, follows the page map's: it takes the same blocks and moves the same pages, and the moves and
-- the erases keep the invariant. Assumes nothing.
use mathlib.Core.Path.{◌≡◌, refl, sym, ◌∙◌, ap, ap₂}
use mathlib.Core.List.{List, [], ◌∷◌}
use mathlib.Core.Option.{Option, some}
use mathlib.Core.Logic.{◌≢◌}
use mathlib.Core.Bool.{true≢false, true, false}
use Prim.Native.Nat.{ℕ, ◌/◌, ◌≤◌, ◌<◌}
use native.Mathlib.Omega.{arith}
use lib.ListN.{length}
use Rattle.model.specs.Lists.{elem, store}
use Rattle.model.specs.Device.{Device}
use Rattle.model.specs.Learning.{Write, logicals, sources}
use Rattle.model.specs.Marks.{is_marked}
use Rattle.model.specs.State.{State, with_counts, with_marks, with_groups, free_blocks, lowest_free}
use Rattle.model.proofs.Bools.{is_false}
use Rattle.model.proofs.Lists.{elem_here, elem_there, store_nil}
use Rattle.model.proofs.Blocks.{lowest_free_lem}
use Rattle.calls.specs.Outcome.{Lent, with_state, collected, Outcome}
use Rattle.calls.specs.Flush.{write_state, write_block}
use Rattle.calls.specs.Choice.{Used, blocks_of, first_of}
use Rattle.calls.specs.Collection.{victims, moves, move_all, erase_block, erase_blocks, list_erased, first_moved, collect_done}
use Rattle.calls.specs.PageMap.{PageMap, spot, map_victims, map_moves, write_counts, map_write, clear_counts}
use Rattle.calls.proofs.Naming.{victims_same, moves_same}
use Rattle.calls.proofs.Moves.{Writable}
use Rattle.calls.proofs.MapInvariant.{owner-names}
use Rattle.calls.proofs.MapCollecting.{moves-fit, move-place, taken-used, moved_off}
use Rattle.calls.proofs.Invariant.{Lies, Inv}
use Rattle.calls.proofs.Found.{map_of, valid-names, lies_at, inv_map}
use Rattle.calls.proofs.Writing.{Fresh, write_inv}
use Rattle.calls.proofs.Keeping.{erase_inv}

-- What a call leaves beside records and spare entries: the device, counts, marks, plan and list of erased blocks.
pub record Rest (y : Lent) (d : Device) (cs ms ps ks : List ℕ) : Type 0 where
  pub device : y.state.device ≡ d
  pub counts : y.state.counts ≡ cs
  pub marks : y.state.marks ≡ ms
  pub plan : y.plan ≡ ps
  pub erased : y.erased ≡ ks

-- What is there is what is left of it where nothing was done.
pub rest : (x : Lent) → Rest x x.state.device x.state.counts x.state.marks x.plan x.erased
rest x = record { device = refl; counts = refl; marks = refl; plan = refl; erased = refl }

-- Writes on the lowest-numbered free block leave its count and the plan.
pub moved-rest : (ws : List Write) (x : Lent) → Rest (move_all ws x) x.state.device (write_counts ws x.state.counts) x.state.marks (store x.plan 0 (sources ws)) x.erased
unfolding move_all write_block write_state with_groups with_counts write_counts sources
moved-rest [] x = record { device = refl; counts = refl; marks = refl; plan = sym (store_nil x.plan 0); erased = refl }
moved-rest (w ∷ ws) x = rest (move_all (w ∷ ws) x)

-- They keep the invariant, where their marks are cleared.
pub written_inv : (ws : List Write) (x : Lent) (place : ℕ → Option ℕ) → Inv x.state x.spare place → Writable x.state.device ws
    → 1 ≤ length ws → 1 ≤ length (free_blocks 0 x.state.counts) → (ms : List ℕ) → Fresh (logicals ws) x.state.marks ms
    → Inv (move_all ws (with_state (with_marks ms x.state) x)).state (move_all ws (with_state (with_marks ms x.state) x)).spare (map_write ws (map_of x.state place)).place
unfolding move_all write_block map_write first_of with_marks
written_inv [] x place v r n f ms fresh = absurd (omega arith)
written_inv (w ∷ ws) x place v r n f ms fresh =
    let l = lowest_free_lem x.state.counts f in
    write_inv x.state x.spare place v (w ∷ ws) (lowest_free x.state) r (omega (arith, l.0, v.counted)) l.1 ms fresh

-- Moves keep it as the marks are, for what lies somewhere isn't marked.
pub moved_inv : (ws : List Write) (x : Lent) (place : ℕ → Option ℕ) → Inv x.state x.spare place → Writable x.state.device ws
    → (1 ≤ length ws → 1 ≤ length (free_blocks 0 x.state.counts)) → ((y : ℕ) → elem y (logicals ws) ≡ true → is_marked x.state.marks y ≡ false)
    → Inv (move_all ws x).state (move_all ws x).spare (map_write ws (map_of x.state place)).place
unfolding move_all write_block write_state with_groups with_counts with_marks map_write first_of logicals spot
moved_inv [] x place v r f u = v
moved_inv (w ∷ ws) x place v r f u =
    written_inv (w ∷ ws) x place v r (omega arith) (f (omega arith)) x.state.marks (record { size = refl; kept = λ y n. refl; cleared = u })

-- Erases leave their counts.
pub erased-rest : (ks : List ℕ) (x : Lent) → Rest (erase_blocks ks x) x.state.device (clear_counts ks x.state.counts) x.state.marks x.plan x.erased
unfolding erase_blocks erase_block with_counts clear_counts
erased-rest [] x = rest x
erased-rest (k ∷ ks) x = erased-rest ks (erase_block k x)

-- erasing blocks on which no logical page lies keeps the invariant
erased_inv : (ks : List ℕ) (x : Lent) (place : ℕ → Option ℕ) → Inv x.state x.spare place → ((k : ℕ) → elem k ks ≡ true → k < x.state.device.M)
    → ((y p : ℕ) → y < x.state.device.N → place y ≡ some p → elem (p / x.state.device.B) ks ≡ false) → Inv (erase_blocks ks x).state (erase_blocks ks x).spare place
unfolding erase_blocks erase_block with_counts
erased_inv [] x place v b n = v
erased_inv (k ∷ ks) x place v b n =
    erased_inv ks (erase_block k x) place (erase_inv x.state x.spare place v k (b k (elem_here k ks)) (λ y p h e. apart y p h e (v.placed y p h e)))
    (λ j m. b j (elem_there j k ks m)) (λ y p h e. is_false _ (λ m. true≢false (sym (elem_there _ k ks m) ∙ n y p h e)))
  where
    apart : (y p : ℕ) → y < x.state.device.N → place y ≡ some p → (l : Lies x.state v.image y p) → l.block ≢ k
    apart y p h e l q =
        true≢false (sym (elem_here k ks) ∙ ap (λ (j : ℕ). elem j (k ∷ ks)) (sym ((lies_at x.state x.spare place v y p l).0 ∙ q)) ∙ n y p h e)

-- A collection that takes these blocks and moves these pages.
unfoldable pub collect_by : Lent → List Used → List Write → Outcome
collect_by x us ws = record {
  answer = collected (first_moved ws x.state) (length ws) (length (blocks_of us));
  after = list_erased (blocks_of us) (erase_blocks (blocks_of us) (move_all ws x));
}

module _ (s : State) (spare : List ℕ) (place : ℕ → Option ℕ) (v : Inv s spare place) where
  -- The blocks taken are the map's ..
  pub same_victims : victims s spare ≡ map_victims (map_of s place)
  same_victims = victims_same _ place _ _ _ _ (valid-names s spare place v) (owner-names (map_of s place) (inv_map s spare place v)) s.device s.counts

  -- .. and so are the pages moved.
  pub same_moves : moves s spare ≡ map_moves (map_of s place)
  same_moves = moves_same _ place _ _ _ _ (valid-names s spare place v) (owner-names (map_of s place) (inv_map s spare place v)) s.device s.counts

module _ (x : Lent) (place : ℕ → Option ℕ) (v : Inv x.state x.spare place) where
  abbrev m : PageMap
  m = map_of x.state place

  -- A collection is one of the map's blocks and pages.
  pub collect_same : collect_done x ≡ collect_by x (map_victims m) (map_moves m)
  unfolding collect_done collect_by
  collect_same = ap₂ (collect_by x) (same_victims x.state x.spare place v) (same_moves x.state x.spare place v)

  abbrev ks : List ℕ
  ks = blocks_of (map_victims m)

  -- It leaves the map's counts, plan and list of erased blocks ..
  pub collect-rest : Rest (collect_by x (map_victims m) (map_moves m)).after x.state.device (clear_counts ks (write_counts (map_moves m) x.state.counts)) x.state.marks (store x.plan 0 (sources (map_moves m))) (store x.erased 0 ks)
  unfolding collect_by list_erased
  collect-rest =
      let w = moved-rest (map_moves m) x in
      let e = erased-rest ks (move_all (map_moves m) x) in
      record {
        device = e.device ∙ w.device;
        counts = e.counts ∙ ap (clear_counts ks) w.counts;
        marks = e.marks ∙ w.marks;
        plan = e.plan ∙ w.plan;
        erased = ap (λ (l : List ℕ). store l 0 ks) (e.erased ∙ w.erased);
      }

  -- .. and keeps the invariant.
  pub collect_inv : (1 ≤ length (map_moves m) → 1 ≤ length (free_blocks 0 x.state.counts))
      → Inv (collect_by x (map_victims m) (map_moves m)).after.state (collect_by x (map_victims m) (map_moves m)).after.spare (map_write (map_moves m) m).place
  unfolding collect_by list_erased
  collect_inv f =
      let i = inv_map x.state x.spare place v in
      let d : (move_all (map_moves m) x).state.device ≡ x.state.device = (moved-rest (map_moves m) x).device in
      erased_inv ks (move_all (map_moves m) x) _ (moved_inv (map_moves m) x place v (moves-fit m i) f (λ y t. unmarked y (move-place m i y t)))
      (λ k t. rw d (omega (arith, (taken-used m i k t).0, v.counted)))
      (λ y p h e. rw d (moved_off m i f y p (rw d at h) e))
    where
      unmarked : (y : ℕ) → (y < x.state.device.N) × ((p : ℕ) × (place y ≡ some p)) → is_marked x.state.marks y ≡ false
      unmarked y t = (v.placed y t.1.0 t.0 t.1.1).unmarked
