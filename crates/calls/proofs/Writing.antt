-- Writing a block, as a flush and a collection do, keeps the invariant where what is written isn't marked then: it lies on the
-- block's first pages, every other logical page where it was. Assumes nothing.
use mathlib.Core.Path.{◌≡◌, refl, sym, ◌∙◌, ap, subst}
use mathlib.Core.List.{List, [], ◌∷◌}
use mathlib.Core.Option.{Option, none, some}
use mathlib.Core.Logic.{◌≢◌}
use mathlib.Core.Bool.{true, false}
use Prim.Native.Nat.{ℕ, zero, suc, ◌+◌, ◌-◌, ◌≤◌, ◌<◌}
use native.Mathlib.Omega.{arith}
use lib.Dec.{leb}
use lib.ListN.{length, get_or, set, length-set}
use lib.IntN.{pos}
use borrow.Author.Tests.{le-leb}
use Rattle.model.specs.Lists.{all, elem}
use Rattle.model.specs.Device.{first_page, offset_of, group_of}
use Rattle.model.specs.Record.{Record}
use Rattle.model.specs.Spare.{program_block}
use Rattle.model.specs.Learning.{Write, Run, logicals, learn, records_for}
use Rattle.model.specs.Levels.{Group, listing, take_in, take_in_all}
use Rattle.model.specs.Marks.{is_marked}
use Rattle.model.specs.State.{State, with_counts, with_marks, with_groups, group_at}
use Rattle.model.specs.Sound.{sound_state, sound_groups, sound_record}
use Rattle.model.proofs.Bools.{and_l, and_r, and_i, all_head, all_tail, all_cons}
use Rattle.model.proofs.Lists.{elem-get_or}
use Rattle.model.proofs.Limits.{limits, group-inside}
use Rattle.model.proofs.SpareArea.{length-program_block}
use Rattle.model.proofs.Image.{Image, program_block-image, program_block_keeps}
use Rattle.model.proofs.Line.{met, overlay}
use Rattle.model.proofs.Order.{AllWithin, sound-within}
use Rattle.model.proofs.TakeIn.{take_in-met, take_in_all-length, take_in_all_at}
use Rattle.model.proofs.SoundGroup.{sound-levels}
use Rattle.model.proofs.SoundGroups.{take_in_all-sound, group_sound}
use Rattle.model.proofs.Sorting.{logicals-length}
use Rattle.model.proofs.Learned.{records-sound, records_for-length}
use Rattle.model.proofs.Hits.{Hit, learn-hit, learn_miss}
use Rattle.calls.specs.Flush.{write_state}
use Rattle.calls.specs.PageMap.{spot}
use Rattle.calls.proofs.Moves.{Writable}
use Rattle.calls.proofs.Placing.{Spot, elsewhere, there, spot_view}
use Rattle.calls.proofs.Invariant.{Lies, lies_still, Inv, update, update_here, update_other, imaged_update}

-- a count within the bound keeps all counts within it
pub counts-set : (b : ℕ) (cs : List ℕ) (k n : ℕ) → n ≤ b → all (λ c. leb c b) cs ≡ true → all (λ c. leb c b) (set cs k n) ≡ true
unfolding all
counts-set b [] k n h a = refl
counts-set b (c ∷ cs) zero n h a = all_cons (λ c. leb c b) n cs (le-leb n b h) (all_tail (λ c. leb c b) c cs a)
counts-set b (c ∷ cs) (suc k) n h a =
    all_cons (λ c. leb c b) c (set cs k n) (all_head (λ c. leb c b) c cs a) (counts-set b cs k n h (all_tail (λ c. leb c b) c cs a))

sound_all_within : (N k : ℕ) (rs : List Record) → all (sound_record N k) rs ≡ true → AllWithin rs
sound_all_within N k [] h = tt
sound_all_within N k (r ∷ rs) h = (sound-within N k r (all_head (sound_record N k) r rs h), sound_all_within N k rs (all_tail (sound_record N k) r rs h))

-- The marks once these logical pages are written: theirs are cleared, every other is as it was.
pub record Fresh (w marks ms : List ℕ) : Type 0 where
  pub size : length ms ≡ length marks
  pub kept : (x : ℕ) → elem x w ≡ false → is_marked ms x ≡ is_marked marks x
  pub cleared : (x : ℕ) → elem x w ≡ true → is_marked ms x ≡ false

module _ (s : State) (spare : List ℕ) (place : ℕ → Option ℕ) (v : Inv s spare place) (ws : List Write) (k : ℕ) (r : Writable s.device ws)
    (block : k < s.device.M) (free : get_or s.counts k 0 ≡ 0) (ms : List ℕ) (fresh : Fresh (logicals ws) s.marks ms) where
  abbrev image : ℕ → List ℕ
  image = v.image

  abbrev w : List ℕ
  w = logicals ws

  abbrev first : ℕ
  first = first_page s.device k

  abbrev runs_of : List Run
  runs_of = learn s.device.g first w

  abbrev after_write : State
  after_write = write_state ws k (with_marks ms s)

  abbrev image' : ℕ → List ℕ
  image' = update k w image

  size : length w ≡ length ws
  size = logicals-length ws

  fits_block : length w ≤ s.device.B
  fits_block = omega (arith, size, r.fits)

  groups_were_sound : sound_groups s.device.N 0 s.groups ≡ true
  unfolding sound_state
  groups_were_sound = and_l _ _ v.sound

  counts_were : all (λ c. leb c s.device.B) s.counts ≡ true
  unfolding sound_state
  counts_were = and_r (sound_groups s.device.N 0 s.groups) _ v.sound

  learned-sound : (j : ℕ) → all (sound_record s.device.N j) (records_for j runs_of) ≡ true
  learned-sound j = records-sound s.device.N s.device.g first j w r.ascends r.logical

  -- what is met afterwards, through the learned records
  met-after : (x : ℕ) → x < s.device.N → met (offset_of x) (listing (group_at after_write (group_of x))) ≡ overlay (offset_of x) (records_for (group_of x) runs_of) (met (offset_of x) (listing (group_at s (group_of x))))
  unfolding write_state with_groups with_counts with_marks group_at
  met-after x h =
      let g : Group = get_or s.groups (group_of x) [] in
      let inside : group_of x < length s.groups = omega (arith, group-inside s.device x h, v.grouped) in
      let z : 0 + group_of x ≡ group_of x = omega arith in
      let e : get_or (take_in_all 0 runs_of s.groups) (group_of x) [] ≡ take_in (records_for (group_of x) runs_of) g =
      take_in_all_at 0 runs_of s.groups (group_of x) inside ∙ ap (λ (j : ℕ). take_in (records_for j runs_of) g) z in
      ap (λ (f : Group). met (offset_of x) (listing f)) e
      ∙ take_in-met (records_for (group_of x) runs_of) (offset_of x) (omega arith) g
      (sound_all_within s.device.N (group_of x) (records_for (group_of x) runs_of) (learned-sound (group_of x)))
      (sound-levels s.device.N (group_of x) g (group_sound s.device.N (group_of x) s.groups groups_were_sound))

  was_empty : length (image k) ≡ 0
  was_empty = v.imaged.count k block ∙ free

  -- a block in which something lay is another one
  other_block : (j i : ℕ) → i < length (image j) → j ≢ k
  other_block j i h e = absurd (omega (arith, was_empty, ap (λ (b : ℕ). length (image b)) e))

  lies_on : (x p : ℕ) → elem x w ≡ false → Lies s image x p → x < s.device.N → Lies after_write image' x p
  unfolding write_state with_groups with_counts with_marks group_at
  lies_on x p n l h =
      let same : image' l.block ≡ image l.block = update_other k w image l.block (other_block l.block l.slot l.written) in
      lies_still s image x p l _ ms _ image' same (met-after x h ∙ learn_miss s.device.g first w r.ascends x n _) (fresh.kept x n ∙ l.unmarked)

  lies_here : (i : ℕ) → i < length w → Lies after_write image' (get_or w i 0) (first + i)
  unfolding write_state with_groups with_counts with_marks
  lies_here i b = go (learn-hit s.device.g first w r.ascends i b (met (offset_of x) (listing (group_at s (group_of x)))))
    where
      x : ℕ
      x = get_or w i 0

      below : x < s.device.N
      below = r.logical x (elem-get_or w i b)

      here : image' k ≡ w
      here = update_here k w image

      go : Hit s.device.g first w i (overlay (offset_of x) (records_for (group_of x) runs_of) (met (offset_of x) (listing (group_at s (group_of x))))) → Lies after_write image' x (first + i)
      go h =
          let e : h.page ≡ first + (h.page - first) = omega (arith, h.from) in
          record {
            block = k;
            slot = i;
            near = h.page - first;
            line = h.line;
            inside = block;
            page = refl;
            written = rw here b;
            carries = rw here refl;
            is_met = met-after x below ∙ h.found;
            predicts = h.predicted ∙ ap (λ (q : ℕ). pos q) e;
            near_written = rw here (omega (arith, h.to, h.from));
            above = omega (arith, h.above, h.from);
            below = omega (arith, h.below);
            unmarked = fresh.cleared x (elem-get_or w i b);
          }

  -- the state stays sound
  state-sound : sound_state after_write ≡ true
  unfolding sound_state write_state with_groups with_counts with_marks
  state-sound =
      and_i _ _
      (take_in_all-sound s.device.N 0 runs_of s.groups groups_were_sound learned-sound (λ j. omega (arith, records_for-length s.device.g first j w, fits_block, (limits s.device v.limits).most_B)))
      (counts-set s.device.B s.counts k (length ws) r.fits counts_were)

  -- Writing block k keeps the invariant.
  pub write_inv : Inv after_write (program_block s.device w k spare) (λ x. spot x first w (place x))
  unfolding write_state with_groups with_counts with_marks
  write_inv = record {
    image = image';
    limits = v.limits;
    bytes = v.bytes;
    counted = length-set s.counts k (length ws) ∙ v.counted;
    marked = fresh.size ∙ v.marked;
    grouped = take_in_all-length 0 runs_of s.groups ∙ v.grouped;
    spared = length-program_block s.device w k spare ∙ v.spared;
    sound = state-sound;
    imaged = imaged_update s.device s.counts spare (program_block s.device w k spare) image k (length ws) w v.imaged
        (omega (arith, v.counted, block)) (subst (λ (c : ℕ). Image s.device (program_block s.device w k spare) k w c) size (program_block-image s.device w k spare block fits_block v.spared))
        (λ j c n i. program_block_keeps s.device w k j spare (image j) c fits_block n i) size r.ascends r.logical;
    placed = λ x p h e. placed_of x p h (spot x first w (place x)) (spot_view x first w (place x)) e;
    unplaced = λ x h e. unplaced_of x h (spot x first w (place x)) (spot_view x first w (place x)) e;
  }
    where
      placed_of : (x p : ℕ) → x < s.device.N → (o : Option ℕ) → Spot x first w (place x) o → o ≡ some p → Lies after_write image' x p
      placed_of x p h o (elsewhere n) e = lies_on x p n (v.placed x p h e) h
      placed_of x p h o (there i b c) e =
          let q : first + i ≡ p = cc in
          subst (λ (y : ℕ). Lies after_write image' x y) q (subst (λ (y : ℕ). Lies after_write image' y (first + i)) c (lies_here i b))

      unplaced_of : (x : ℕ) → x < s.device.N → (o : Option ℕ) → Spot x first w (place x) o → o ≡ none → is_marked ms x ≡ false
          → met (offset_of x) (listing (group_at after_write (group_of x))) ≡ none
      unplaced_of x h o (elsewhere n) e q = met-after x h ∙ learn_miss s.device.g first w r.ascends x n _ ∙ v.unplaced x h e (sym (fresh.kept x n) ∙ q)
      unplaced_of x h o (there i b c) e q = let z : ◌≡◌ {A = ℕ} 0 1 = cc in absurd (omega arith)
