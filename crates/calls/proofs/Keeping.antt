-- A format gives the invariant; a compaction keeps it, and so do a discard and erasing a block on which nothing lies. Assumes nothing.
use mathlib.Core.Path.{◌≡◌, refl, sym, ◌∙◌, ap, subst}
use mathlib.Core.List.{List, [], flatten}
use mathlib.Core.Option.{Option, none, some}
use mathlib.Core.Logic.{◌≢◌}
use mathlib.Core.Bool.{Bool, true, false, ◌||◌}
use Prim.Native.Nat.{ℕ, zero, suc, ◌<◌}
use native.Mathlib.Omega.{arith}
use lib.Dec.{leb, ltb, eqb}
use lib.ListN.{length, get_or, set, replicate, length-set, length-replicate}
use lib.Seq.{get_or-set_same, get_or-set_other, set_out}
use borrow.Author.Tests.{le-leb, ltb-true, ltb-false, eqb-true, eqb-false}
use Rattle.model.specs.Lists.{all}
use Rattle.model.specs.Device.{Device, within_limits, offset_of, group_of, marks_count, group_count, spare_length}
use Rattle.model.specs.Spare.{nobody, erase}
use Rattle.model.specs.Levels.{Group, listing, compact}
use Rattle.model.specs.Marks.{is_marked, mark}
use Rattle.model.specs.State.{State, with_counts, with_marks, with_groups, group_at}
use Rattle.model.specs.Sound.{sound_state, sound_groups}
use Rattle.model.proofs.Bools.{and_l, and_r, and_i, or_none, neither, all_cons}
use Rattle.model.proofs.Lists.{end, no_elem, replicate_at}
use Rattle.model.proofs.Marks.{length-mark, mark-inside, mark-marked}
use Rattle.model.proofs.SpareArea.{length-erase}
use Rattle.model.proofs.Image.{Image, erase-image, erase_keeps, blank-image}
use Rattle.model.proofs.Line.{met}
use Rattle.model.proofs.Compaction.{compact-met}
use Rattle.model.proofs.SoundGroup.{sound-levels, compact-sound}
use Rattle.model.proofs.SoundGroups.{replicate-sound, group_sound, set-sound}
use Rattle.calls.specs.Format.{blank_state}
use Rattle.calls.specs.Discard.{discard_page}
use Rattle.calls.specs.Compaction.{compact_group}
use Rattle.calls.specs.PageMap.{place_discard}
use Rattle.calls.proofs.MapDiscarding.{discard_other, still_there}
use Rattle.calls.proofs.Invariant.{lies_still, Inv, update, update_other, imaged_update}
use Rattle.calls.proofs.Writing.{counts-set}

zeros_within : (b n : ℕ) → all (λ c. leb c b) (replicate n 0) ≡ true
unfolding all
zeros_within b zero = refl
zeros_within b (suc n) = all_cons (λ c. leb c b) 0 (replicate n 0) (le-leb 0 b (omega arith)) (zeros_within b n)

-- After a format nothing lies anywhere.
pub format_inv : (d : Device) → within_limits d ≡ true → Inv (blank_state d) (replicate (spare_length d) nobody) (λ y. none)
unfolding blank_state sound_state group_at met flatten
format_inv d h = record {
  image = λ k. [];
  limits = h;
  bytes = refl;
  counted = length-replicate d.M 0;
  marked = length-replicate (marks_count d) 0;
  grouped = length-replicate (group_count d) [];
  spared = length-replicate (spare_length d) nobody;
  sound = and_i _ _ (replicate-sound d.N 0 (group_count d)) (zeros_within d.B d.M);
  imaged = record {
    entries = λ k l. subst (λ (c : ℕ). Image d (replicate (spare_length d) nobody) k [] c) (sym (replicate_at d.M k 0)) (blank-image d k l);
    count = λ k l. sym (replicate_at d.M k 0);
    ascends = λ k l. end;
    logical = λ k l y m. no_elem y m;
  };
  placed = λ y p l q. let z : ◌≡◌ {A = ℕ} 0 1 = cc in absurd (omega arith);
  unplaced = λ y l q u. ap (λ (g : Group). met (offset_of y) (listing g)) (replicate_at {A = Group} (group_count d) (group_of y) []);
}

module _ (s : State) (spare : List ℕ) (place : ℕ → Option ℕ) (v : Inv s spare place) where
  abbrev image : ℕ → List ℕ
  image = v.image

  groups_sound_lem : sound_groups s.device.N 0 s.groups ≡ true
  unfolding sound_state
  groups_sound_lem = and_l _ _ v.sound

  counts_within_lem : all (λ c. leb c s.device.B) s.counts ≡ true
  unfolding sound_state
  counts_within_lem = and_r (sound_groups s.device.N 0 s.groups) _ v.sound

  -- what is met is the same after a compaction
  met-compacted : (k o j : ℕ) → o < 256 → met o (listing (group_at (compact_group k s) j)) ≡ met o (listing (group_at s j))
  unfolding group_at compact_group with_groups
  met-compacted k o j h = go (eqb j k) (ltb k (length s.groups)) refl refl
    where
      new : Group
      new = compact (get_or s.groups k [])

      go : (t u : Bool) → eqb j k ≡ t → ltb k (length s.groups) ≡ u → met o (listing (get_or (set s.groups k new) j [])) ≡ met o (listing (get_or s.groups j []))
      go false u e f = ap (λ (g : Group). met o (listing g)) (get_or-set_other s.groups k j new [] (eqb-false j k e))
      go true false e f = ap (λ (gs : List Group). met o (listing (get_or gs j []))) (set_out s.groups k new (ltb-false k _ f))
      go true true e f =
          ap (λ (i : ℕ). met o (listing (get_or (set s.groups k new) i []))) (eqb-true j k e)
          ∙ ap (λ (g : Group). met o (listing g)) (get_or-set_same s.groups k new [] (ltb-true k _ f))
          ∙ compact-met o h (get_or s.groups k []) (sound-levels s.device.N k _ (group_sound s.device.N k s.groups groups_sound_lem))
          ∙ ap (λ (i : ℕ). met o (listing (get_or s.groups i []))) (sym (eqb-true j k e))

  -- A compaction keeps the invariant.
  pub compact_inv : (k : ℕ) → Inv (compact_group k s) spare place
  unfolding compact_group with_groups sound_state group_at
  compact_inv k = record {
    image = image;
    limits = v.limits;
    bytes = v.bytes;
    counted = v.counted;
    marked = v.marked;
    grouped = length-set s.groups k _ ∙ v.grouped;
    spared = v.spared;
    sound = and_i _ _ (set-sound s.device.N k s.groups _ groups_sound_lem (compact-sound s.device.N k _ (group_sound s.device.N k s.groups groups_sound_lem))) counts_within_lem;
    imaged = v.imaged;
    placed = λ x p h e.
        let l = v.placed x p h e in
        lies_still s image x p l _ _ _ image refl (met-compacted k (offset_of x) (group_of x) (omega arith)) l.unmarked;
    unplaced = λ x h e u. met-compacted k (offset_of x) (group_of x) (omega arith) ∙ v.unplaced x h e u;
  }

  -- Erasing a block on which no logical page lies keeps the invariant.
  pub erase_inv : (k : ℕ) → k < s.device.M → ((x p : ℕ) (h : x < s.device.N) (e : place x ≡ some p) → (v.placed x p h e).block ≢ k)
      → Inv (with_counts (set s.counts k 0) s) (erase s.device k spare) place
  unfolding with_counts sound_state group_at
  erase_inv k b n = record {
    image = update k [] image;
    limits = v.limits;
    bytes = v.bytes;
    counted = length-set s.counts k 0 ∙ v.counted;
    marked = v.marked;
    grouped = v.grouped;
    spared = length-erase s.device k spare ∙ v.spared;
    sound = and_i _ _ groups_sound_lem (counts-set s.device.B s.counts k 0 (omega arith) counts_within_lem);
    imaged = imaged_update s.device s.counts spare (erase s.device k spare) image k 0 [] v.imaged
        (omega (arith, v.counted, b)) (erase-image s.device k spare b v.spared)
        (λ j c o i. erase_keeps s.device k j spare (image j) c o i) refl end (λ x m. no_elem x m);
    placed = λ x p h e.
        let l = v.placed x p h e in
        lies_still s image x p l _ _ _ (update k [] image) (update_other k [] image l.block (n x p h e)) refl l.unmarked;
    unplaced = v.unplaced;
  }

  -- A discard keeps the invariant: the logical page is marked, and lies nowhere.
  pub discard_inv : (x : ℕ) → x < s.device.N → Inv (discard_page x s) spare (place_discard x place)
  unfolding discard_page with_marks sound_state group_at
  discard_inv x h = record {
    image = image;
    limits = v.limits;
    bytes = v.bytes;
    counted = v.counted;
    marked = length-mark x s.marks ∙ v.marked;
    grouped = v.grouped;
    spared = v.spared;
    sound = v.sound;
    imaged = v.imaged;
    placed = λ y p b e.
        let t = still_there x place y p e in
        let l = v.placed y p b t.1 in
        lies_still s image y p l _ (mark x s.marks) _ image refl refl (marks y ∙ neither _ _ t.0 l.unmarked);
    unplaced = λ y b e q.
        let n = or_none (eqb y x) (is_marked s.marks y) (sym (marks y) ∙ q) in
        v.unplaced y b (sym (discard_other x place y n.0) ∙ e) n.1;
  }
    where
      marks : (y : ℕ) → is_marked (mark x s.marks) y ≡ (eqb y x || is_marked s.marks y)
      marks = mark-marked x s.marks (omega (arith, mark-inside s.device x h, v.marked))
