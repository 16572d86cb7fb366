-- A group's part as it is lent, and passes over the groups: what the whole gives is what the rest gives from here. Assumes nothing.
use mathlib.Core.Path.{◌≡◌, sym, ap, ◌∙◌}
use mathlib.Core.List.{List, [], ◌++◌}
use mathlib.Core.Bool.{Bool, true, false, ◌&&◌}
use Prim.Native.Nat.{ℕ, suc, ◌+◌, ◌-◌, ◌≤◌, ◌<◌}
use native.Mathlib.Omega.{arith}
use native.Mathlib.Numerals.{add-one}
use lib.Dec.{leb}
use lib.ListN.{length, set, take, drop, drop_of_length-le}
use lib.Seq.{drop-cons, drop-drop, take_at, drop_at, length-take-le}
use Rattle.model.specs.Lists.{all, store}
use Rattle.model.specs.Device.{Device, group_count, group_length, regions}
use Rattle.model.specs.State.{State, with_groups, group_at}
use Rattle.model.specs.Sound.{sound_group, sound_groups, sound_state}
use Rattle.model.proofs.Bools.{and_l}
use Rattle.model.proofs.SoundGroups.{group_sound}
use Rattle.octets.proofs.Stores.{lent_back}
use Rattle.front.specs.Reading.{numbers_at}
use Rattle.group.specs.Reading.{read_group}
use Rattle.state.specs.Regions.{group_region, cell}
use Rattle.state.specs.Reading.{group_place, read_state}
use Rattle.state.specs.Outside.{SameOutside}
use Rattle.state.specs.Shaped.{Shaped}
use Rattle.state.proofs.Writers.{group-stored}
use Rattle.state.proofs.Places.{group_next}
use Rattle.state.proofs.Shaping.{numbers_are, group_is, group_in, length-group}

-- t put back for a part of n from a on: what stands before the part, and behind it
module _ (s t : List ℕ) (a n : ℕ) (inside : a ≤ length s) (size : length t ≡ n) where
  abbrev back : List ℕ
  back = take a s ++ (t ++ drop n (drop a s))

  before-part : take a back ≡ take a s
  before-part = take_at (take a s) (t ++ drop n (drop a s)) a (length-take-le a s inside)

  behind-part : drop (a + n) back ≡ drop (a + n) s
  behind-part =
      sym (drop-drop n a back)
      ∙ ap (drop n) (drop_at (take a s) (t ++ drop n (drop a s)) a (length-take-le a s inside))
      ∙ drop_at t (drop n (drop a s)) n size
      ∙ drop-drop n a s

-- what is known of the part from a to e where it is group k's
pub record GroupPart (s : List ℕ) (k a e : ℕ) : Type 0 where
  pub inside : e ≤ length s
  pub size : length (take (e - a) (drop a s)) ≡ group_length
  pub group : read_group (take (e - a) (drop a s)) ≡ group_at (read_state s) k

module _ (d : Device) (s : List ℕ) (h : Shaped d (read_state s)) (k a e : ℕ) (lt : k < group_count d) (start : a ≡ group_place d k) (end : e ≡ group_place d k + group_length) where
  part_is : take (e - a) (drop a s) ≡ cell d group_region s k
  unfolding cell regions
  part_is =
      let n : e - a ≡ group_length = omega (arith, start, end) in
      rw (n, start)

  pub lent : GroupPart s k a e
  lent = record {
    inside = omega (arith, end, group_in d s h k lt);
    size = ap length part_is ∙ length-group d s h k lt;
    group = ap read_group part_is ∙ sym (group_is d s h k lt);
  }

  -- lent to be written, and t left in it: group k is read from t, and all else as before
  pub part_replaced : (t : List ℕ) → length t ≡ length (take (e - a) (drop a s))
      → read_state (take a s ++ (t ++ drop (e - a) (drop a s))) ≡ with_groups (set (read_state s).groups k (read_group t)) (read_state s)
  part_replaced t size =
      let n : length t ≡ e - a = omega (arith, size, lent.size, start, end) in
      ap read_state (lent_back (e - a) a s t n (omega (arith, lent.inside, start, end)))
      ∙ ap (λ (p : ℕ). read_state (store s p t)) start
      ∙ group-stored d s h k t lt (size ∙ lent.size)

  -- and the bytes outside the part are as they were
  pub part-outside : (t : List ℕ) → length t ≡ group_length → SameOutside (numbers_at s) k s (take a s ++ (t ++ drop (e - a) (drop a s)))
  part-outside t size =
      let n : length t ≡ e - a = omega (arith, size, start, end) in
      let low : a ≤ length s = omega (arith, lent.inside, start, end) in
      let here : group_place (numbers_at s) k ≡ a = ap (λ (c : Device). group_place c k) (numbers_are d s h) ∙ sym start in
      let next : group_place d (suc k) ≡ a + (e - a) = omega (arith, group_next d k, start, end) in
      let there : group_place (numbers_at s) (suc k) ≡ a + (e - a) = ap (λ (c : Device). group_place c (suc k)) (numbers_are d s h) ∙ next in
      record { before = rw here (before-part s t a (e - a) low n); behind = rw there (behind-part s t a (e - a) low n) }

-- whether the groups from k on are sound
unfoldable pub groups_sound : State → ℕ → ℕ → Bool
groups_sound s N k = sound_groups N k (drop k s.groups)

module _ (s : State) (N k : ℕ) (t : Bool) (e : t ≡ sound_group N k (group_at s k)) (so : groups_sound s N 0 ≡ groups_sound s N k) (lt : k < length s.groups) where
  step : groups_sound s N k ≡ (t && groups_sound s N (k + 1))
  unfolding groups_sound sound_groups group_at
  step = rw (add-one k, drop-cons s.groups k [] lt, e)

  pub unsound_here : t ≡ false → false ≡ groups_sound s N 0
  unsound_here f = sym (so ∙ step ∙ rw f)

  pub sound_on : t ≡ true → groups_sound s N 0 ≡ groups_sound s N (k + 1)
  sound_on f = so ∙ step ∙ rw f

pub sound-end : (s : State) (N k : ℕ) → groups_sound s N 0 ≡ groups_sound s N k → length s.groups ≤ k → true ≡ groups_sound s N 0
unfolding groups_sound sound_groups
sound-end s N k so h = sym (so ∙ rw (drop_of_length-le s.groups h))

-- groups, then counts
module _ (d : Device) (s : State) (h : Shaped d s) (t : Bool) (e : t ≡ sound_groups d.N 0 s.groups) where
  pub groups_fail : t ≡ false → false ≡ sound_state s
  unfolding sound_state
  groups_fail f = rw (h.numbers, ← e, f)

  pub counts_decide : t ≡ true → (u : Bool) → u ≡ all (λ c. leb c d.B) s.counts → u ≡ sound_state s
  unfolding sound_state
  counts_decide f u q = rw (h.numbers, ← e, f, q)

-- each group of a sound state is sound
pub sound_at : (d : Device) (s : State) → Shaped d s → sound_state s ≡ true → (k : ℕ) → sound_group d.N k (group_at s k) ≡ true
unfolding sound_state group_at
sound_at d s h e k = group_sound d.N k s.groups (ap (λ (c : Device). sound_groups c.N 0 s.groups) (sym h.numbers) ∙ and_l _ _ e)
