-- The pass over the runs: each one's record is put into its group, and what is left to take in makes the whole. Assumes nothing.
use mathlib.Core.Path.{◌≡◌, refl, sym, ap, ◌∙◌, subst}
use mathlib.Core.List.{List, [], ◌∷◌}
use mathlib.Core.Bool.{Bool, true, false}
use Prim.Native.Nat.{ℕ, suc, ◌+◌, ◌-◌, ◌≤◌, ◌<◌}
use native.Mathlib.Omega.{arith}
use native.Mathlib.Nat.{zero-add}
use native.Mathlib.Numerals.{add-one}
use lib.Dec.{ltb, eqb}
use lib.ListN.{length, get_or, set, length-set}
use lib.Seq.{get_or-set_same, get_or-set_other, ext_get_or}
use borrow.Author.Tests.{ltb-true, eqb-true, eqb-false, eq-eqb}
use Rattle.model.specs.Device.{Device, group_count}
use Rattle.model.specs.Learning.{Run, records_for}
use Rattle.model.specs.Levels.{Group, record_count, insert, take_in, take_in_all}
use Rattle.model.specs.State.{State, with_groups, group_at}
use Rattle.model.specs.Sound.{sound_group, sound_groups}
use Rattle.model.proofs.SoundGroup.{insert-sound}
use Rattle.model.proofs.SoundGroups.{group_sound, set-sound}
use Rattle.model.proofs.TakeIn.{take_in_all-length, take_in_all_at}
use Rattle.front.specs.Tables.{list_from}
use Rattle.record.specs.declared.Record as struct
use Rattle.insertion.proofs.ListWrites.{all_at}
use Rattle.state.specs.Shaped.{Shaped}
use Rattle.state.proofs.Shaping.{shaped-groups}
use Rattle.writing.specs.Handed.{first_place, no_record, learned_at, run_group, handed_run, runs_from, runs_end, Sorted, Learned}
use Rattle.writing.specs.Taking.{with_room, grown, put_in}
use Rattle.writing.proofs.Places.{page-inside}
use Rattle.writing.proofs.Rooms.{room_fits, room-sound, takes_none, takes_first}
use Rattle.writing.proofs.RunsEnd.{end-behind, own-count}

-- Groups that take in nothing stay.
groups_none : (N : ℕ) (gs : List Group) → sound_groups N 0 gs ≡ true → take_in_all 0 [] gs ≡ gs
unfolding records_for
groups_none N gs h =
    ext_get_or [] _ _ (take_in_all-length 0 [] gs) (λ k l.
    take_in_all_at 0 [] gs k (omega (arith, take_in_all-length 0 [] gs)) ∙ takes_none N k (get_or gs k []) (group_sound N k gs h))

-- The first run's record is inserted into its group, which has room for its own, m; the groups take in the others then.
module _ (r : Run) (rs : List Run) (gs : List Group) (exists : r.group < length gs) (m : ℕ) (own : length (records_for r.group (r ∷ rs)) ≡ m) (few : m ≤ 256) where
  abbrev then : List Group
  then = set gs r.group (insert r.learned (with_room m (get_or gs r.group [])))

  Alike : ℕ → Type 0
  Alike k = take_in (records_for k (r ∷ rs)) (get_or gs k []) ≡ take_in (records_for k rs) (get_or then k [])

  alike : (k : ℕ) (t : Bool) → eqb r.group k ≡ t → Alike k
  unfolding records_for Alike
  alike k true e =
      let t : eqb r.group r.group ≡ true = eq-eqb r.group r.group refl in
      let n : suc (length (records_for r.group rs)) ≡ m = rw (t, records_for) at own in
      subst Alike (eqb-true r.group k e)
      (rw (t, records_for, get_or-set_same gs r.group _ [] exists, ← n) (takes_first r.learned (records_for r.group rs) (get_or gs r.group []) (omega arith)))
  alike k false e =
      let f : r.group ≡ k → ⊥ = eqb-false r.group k e in
      rw (e, records_for, get_or-set_other gs r.group k _ [] (λ q. f (sym q)))

  groups_first : take_in_all 0 (r ∷ rs) gs ≡ take_in_all 0 rs then
  unfolding Alike
  groups_first =
      let size : length then ≡ length gs = length-set gs r.group _ in
      ext_get_or [] _ _ (take_in_all-length 0 (r ∷ rs) gs ∙ sym (take_in_all-length 0 rs then ∙ size)) (λ k l.
      let z : 0 + k ≡ k = zero-add k in
      let inside : k < length gs = omega (arith, take_in_all-length 0 (r ∷ rs) gs) in
      rw z at (take_in_all_at 0 (r ∷ rs) gs k inside) ∙ alike k (eqb r.group k) refl ∙ sym (rw z at (take_in_all_at 0 rs then k (omega arith))))

-- A run's group is one of the device's.
pub group_exists : (d : Device) (w taken : List ℕ) (n i : ℕ) → Sorted d.N w taken n → i < n → run_group w taken i < group_count d
unfolding run_group group_count
group_exists d w taken n i c h =
    omega (arith, ltb-true (get_or w (first_place taken i) 0) d.N (all_at (λ x. ltb x d.N) w (first_place taken i) 0 (page-inside taken i _ refl w n c.counted h) c.below))

-- State s became t while the first i of n runs were taken in: it keeps its shape, its groups are sound, and those left make the whole.
pub record TakenIn (d : Device) (w : List ℕ) (out : List struct.Record) (taken : List ℕ) (n : ℕ) (s t : State) (i : ℕ) : Type 0 where
  pub shaped : Shaped d t
  pub sound : sound_groups d.N 0 t.groups ≡ true
  pub left : with_groups (take_in_all 0 (runs_from w out taken i (n - i)) t.groups) t ≡ with_groups (take_in_all 0 (runs_from w out taken 0 n) s.groups) s

module _ (d : Device) (w : List ℕ) (out : List struct.Record) (taken : List ℕ) (n : ℕ) (s : State) where
  -- none yet
  pub taken_none : Shaped d s → sound_groups d.N 0 s.groups ≡ true → TakenIn d w out taken n s s 0
  taken_none shaped sound = let z : n - 0 ≡ n = omega arith in record { shaped = shaped; sound = sound; left = rw z refl }

  -- all
  pub taken_all : (t : State) (i : ℕ) → n ≤ i → TakenIn d w out taken n s t i → t ≡ with_groups (take_in_all 0 (runs_from w out taken 0 n) s.groups) s
  unfolding with_groups runs_from list_from
  taken_all t i h p =
      let z : n - i ≡ 0 = omega arith in
      ap (λ (gs : List Group). with_groups gs t) (sym (groups_none d.N t.groups p.sound)) ∙ rw z at p.left

  -- a run more
  module _ (c : Learned d.N w out taken n) (t : State) (i : ℕ) (h : i < n) (p : TakenIn d w out taken n s t i) (size : length t.groups ≡ group_count d) where
    abbrev k : ℕ
    k = run_group w taken i

    -- how many of its group's runs are left
    abbrev m : ℕ
    m = runs_end w taken n i - i

    pub taken_more : (u : State) (j : ℕ) → u ≡ put_in w taken n i (get_or out i no_record) t → j ≡ i + 1 → TakenIn d w out taken n s u j
    unfolding put_in grown with_groups group_at handed_run runs_from list_from
    taken_more u j done moved =
        let few : m ≤ 256 = omega (arith, (end-behind w taken n i h).1, c.sorted.few) in
        let fits : record_count (with_room m (group_at t k)) < 512 = omega (arith, (end-behind w taken n i h).0, room_fits m (group_at t k) few) in
        let roomy : sound_group d.N k (with_room m (group_at t k)) ≡ true = room-sound m (group_at t k) d.N k (group_sound d.N k t.groups p.sound) in
        let e : n - i ≡ suc (n - suc i) = omega arith in
        let own : length (records_for k (handed_run w out taken i ∷ runs_from w out taken (suc i) (n - suc i))) ≡ m = rw e at (own-count w taken n c.sorted.counted c.sorted.ascends out i h) in
        rw (done, moved, add-one i)
        (record {
          shaped = shaped-groups d _ t p.shaped;
          sound = set-sound d.N k t.groups _ p.sound (insert-sound d.N k (learned_at w out taken i) _ roomy (c.sound i h) fits);
          left = ap (λ (gs : List Group). with_groups gs t) (sym (groups_first (handed_run w out taken i) _ t.groups (omega (arith, group_exists d w taken n i c.sorted h, size)) m own few)) ∙ rw e at p.left;
        })
