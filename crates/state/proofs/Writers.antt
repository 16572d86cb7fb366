-- What is read after a write: a count stored changes that count alone, a byte of the marks that byte, a group's part replaced that
-- group, by the law of the regions. Assumes nothing.
use mathlib.Core.Path.{◌≡◌, refl, sym, ap, ◌∙◌}
use mathlib.Core.List.{List, [], ◌∷◌}
use mathlib.Core.Logic.{◌≢◌}
use Prim.Native.Nat.{ℕ, ◌+◌, ◌*◌, ◌≤◌, ◌<◌}
use native.Mathlib.Omega.{arith}
use lib.ListN.{length, set}
use Rattle.model.specs.Lists.{store}
use Rattle.model.specs.Device.{Device, group_count, marks_count, head_length, count_length, marks_length, group_length, regions, regions_length}
use Rattle.model.specs.Levels.{Group}
use Rattle.model.specs.State.{with_counts, with_marks, with_groups}
use Rattle.model.proofs.Lists.{length-store}
use Rattle.octets.specs.Little.{bytes2}
use Rattle.octets.proofs.Same.{stored-below}
use Rattle.octets.proofs.ReadWrite.{length-bytes2}
use Rattle.front.specs.Reading.{numbers_at, read_counts}
use Rattle.front.proofs.HeadBytes.{numbers_same}
use Rattle.front.proofs.CountsRead.{count-stored}
use Rattle.group.specs.Reading.{read_group}
use Rattle.state.specs.Regions.{count_region, marks_region, group_region, region_at, place_at, cell_place, read_region}
use Rattle.state.specs.Reading.{read_count, read_marks, count_place, marks_place, group_place, read_state}
use Rattle.state.specs.Shaped.{Shaped}
use Rattle.state.proofs.Places.{count_at}
use Rattle.state.proofs.Regions.{head_before, region_other, region_set}
use Rattle.state.proofs.Shaping.{counts_region, long, numbers_are, front_in, counts_are, marks_are, groups_are}

-- the state that bytes are read as, region by region
read_as : (d : Device) (t : List ℕ) (n : ℕ) (cs ms : List ℕ) (gs : List Group) → length t ≡ n → numbers_at t ≡ d
    → read_counts d t ≡ cs → read_region read_marks d marks_region t ≡ ms → read_region read_group d group_region t ≡ gs
    → read_state t ≡ record { bytes = n; device = d; counts = cs; marks = ms; groups = gs }
unfolding read_state
read_as d t n cs ms gs l e c m g = rw (e, l, c, m, g)

module _ (d : Device) (s : List ℕ) (h : Shaped d (read_state s)) where
  -- v stored in a cell behind the device numbers: the regions are read anew
  stored-read : (r k : ℕ) (v cs ms : List ℕ) (gs : List Group) → 1 ≤ r
      → read_counts d (store s (cell_place d r k) v) ≡ cs → read_region read_marks d marks_region (store s (cell_place d r k) v) ≡ ms
      → read_region read_group d group_region (store s (cell_place d r k) v) ≡ gs
      → read_state (store s (cell_place d r k) v) ≡ record { bytes = (read_state s).bytes; device = (read_state s).device; counts = cs; marks = ms; groups = gs }
  unfolding read_state place_at regions regions_length head_length
  stored-read r k v cs ms gs one c m g =
      read_as d _ (length s) cs ms gs (length-store s (cell_place d r k) v)
      (numbers_same (stored-below 16 s (cell_place d r k) v 0 (omega (arith, head_before d r k one))) ∙ numbers_are d s h) c m g
      ∙ ap (λ (e : Device). record { bytes = length s; device = e; counts = cs; marks = ms; groups = gs }) (sym (numbers_are d s h))

  -- a cell of another region than theirs leaves the counts
  counts-kept : (r k : ℕ) (v : List ℕ) → k < (region_at (regions d) r).cells → length v ≡ (region_at (regions d) r).width → count_region ≢ r
      → read_counts d (store s (cell_place d r k) v) ≡ (read_state s).counts
  counts-kept r k v there size n =
      counts_region d (store s (cell_place d r k) v)
      ∙ region_other d s (long d s h) r k v there size read_count count_region n
      ∙ sym (counts_are d s h ∙ counts_region d s)

  -- a count stored at its place
  pub count-stored_at : (k v : ℕ) → k < d.M → v < 65536 → read_state (store s (16 + 2 * k) (bytes2 v)) ≡ with_counts (set (read_state s).counts k v) (read_state s)
  unfolding with_counts regions count_length
  count-stored_at k v there small =
      let size : length (bytes2 v) ≡ 2 = length-bytes2 v in
      let e : 16 + 2 * k ≡ count_place d k = omega (arith, count_at d k) in
      ap (λ (q : ℕ). read_state (store s q (bytes2 v))) e
      ∙ stored-read count_region k (bytes2 v) (set (read_state s).counts k v) (read_state s).marks (read_state s).groups (omega arith)
      (ap (λ (q : ℕ). read_counts d (store s q (bytes2 v))) (sym e)
      ∙ count-stored d s k v there small (front_in d s h).0
      ∙ ap (λ (cs : List ℕ). set cs k v) (sym (counts_are d s h)))
      (region_other d s (long d s h) count_region k (bytes2 v) there size read_marks marks_region (λ n. omega arith) ∙ sym (marks_are d s h))
      (region_other d s (long d s h) count_region k (bytes2 v) there size read_group group_region (λ n. omega arith) ∙ sym (groups_are d s h))

  -- a byte of the marks stored at its place, p
  pub marks-stored_at : (k v p : ℕ) → k < marks_count d → p ≡ marks_place d k → read_state (store s p (v ∷ [])) ≡ with_marks (set (read_state s).marks k v) (read_state s)
  unfolding with_marks read_marks regions marks_length
  marks-stored_at k v p there e =
      ap (λ (q : ℕ). read_state (store s q (v ∷ []))) e
      ∙ stored-read marks_region k (v ∷ []) (read_state s).counts (set (read_state s).marks k v) (read_state s).groups (omega arith)
      (counts-kept marks_region k (v ∷ []) there refl (λ n. omega arith))
      (region_set d s (long d s h) marks_region k (v ∷ []) there refl read_marks ∙ ap (λ (ms : List ℕ). set ms k v) (sym (marks_are d s h)))
      (region_other d s (long d s h) marks_region k (v ∷ []) there refl read_group group_region (λ n. omega arith) ∙ sym (groups_are d s h))

  -- a group's part replaced
  pub group-stored : (k : ℕ) (t : List ℕ) → k < group_count d → length t ≡ group_length
      → read_state (store s (group_place d k) t) ≡ with_groups (set (read_state s).groups k (read_group t)) (read_state s)
  unfolding with_groups regions
  group-stored k t there size =
      stored-read group_region k t (read_state s).counts (read_state s).marks (set (read_state s).groups k (read_group t)) (omega arith)
      (counts-kept group_region k t there size (λ n. omega arith))
      (region_other d s (long d s h) group_region k t there size read_marks marks_region (λ n. omega arith) ∙ sym (marks_are d s h))
      (region_set d s (long d s h) group_region k t there size read_group ∙ ap (λ (gs : List Group). set gs k (read_group t)) (sym (groups_are d s h)))
