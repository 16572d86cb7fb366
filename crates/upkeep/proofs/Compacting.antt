-- The ways in which a compaction ends: its refusals in order, and the group compacted. Assumes nothing.
use mathlib.Core.Path.{◌≡◌, refl, sym, ap, ◌∙◌}
use mathlib.Core.List.{List, ◌++◌}
use mathlib.Core.Option.{none, some}
use mathlib.Core.Bool.{true≢false, true, false}
use Prim.Native.Nat.{ℕ, ◌+◌, ◌-◌, ◌≤◌, ◌<◌}
use lib.ListN.{length, set, take, drop}
use Rattle.model.specs.Device.{Device, group_count, group_length}
use Rattle.model.specs.Levels.{Group, record_count, compact}
use Rattle.model.specs.State.{State, with_groups, group_at}
use Rattle.model.specs.Sound.{sound_group}
use Rattle.calls.specs.Refusals.{Refusal, not_sound, out_of_range, first_refusal, opening}
use Rattle.calls.specs.Outcome.{accepted, compacted, refused}
use Rattle.calls.specs.Compaction.{group_checks, compact_checks, compact_group, compact_done}
use Rattle.calls.specs.History.{compact_call, lend, lent_to, checks_of, effect}
use Rattle.calls.proofs.Refusing.{front-refuses, others_decide}
use Rattle.group.specs.Reading.{read_group}
use Rattle.compaction.specs.Passing.{Compactable}
use Rattle.state.specs.Reading.{group_place, read_state}
use Rattle.state.specs.Shaped.{Shaped}
use Rattle.state.specs.Ran.{device_slices, Ran}
use Rattle.state.proofs.Refusing.{ran-refused, ran-accepted}
use Rattle.state.proofs.GroupChecks.{no_group, unsound_group, sound_group_lem}
use Rattle.state.proofs.Handing.{lent, part_replaced}

-- the part of a sound group can be compacted, and then the state is read with that group compacted
module _ (d : Device) (s : List ℕ) (h : Shaped d (read_state s)) (k a e : ℕ) (lt : k < group_count d) (start : a ≡ group_place d k) (end : e ≡ group_place d k + group_length)
    (sound : sound_group d.N k (group_at (read_state s) k) ≡ true) where
  abbrev part : List ℕ
  part = take (e - a) (drop a s)

  is_group : read_group part ≡ group_at (read_state s) k
  is_group = (lent d s h k a e lt start end).group

  pub part-ready : Compactable part
  part-ready = record { N = d.N; number = k; size = (lent d s h k a e lt start end).size; sound = ap (sound_group d.N k) is_group ∙ sound }

  pub part-compacted : (t : List ℕ) → length t ≡ group_length → read_group t ≡ compact (read_group part)
      → read_state (take a s ++ (t ++ drop (e - a) (drop a s))) ≡ compact_group k (read_state s)
  unfolding compact_group
  part-compacted t size q =
      part_replaced d s h k a e lt start end t (size ∙ sym (lent d s h k a e lt start end).size)
      ∙ ap (λ (g : Group). with_groups (set (read_state s).groups k g) (read_state s)) (q ∙ ap compact is_group)

  pub records-left : (r : ℕ) → r ≡ record_count (compact (read_group part)) → r ≡ record_count (compact (group_at (read_state s) k))
  records-left r q = q ∙ ap (λ (g : Group). record_count (compact g)) is_group

-- a call on state: each refusal in order, then the group compacted
module _ (state : List ℕ) (k : ℕ) (spare : List ℕ) where
  abbrev s : State
  s = read_state state

  refuses : (r : Refusal) → first_refusal (opening s ++ group_checks k s) ≡ some r → Ran (compact_call k) state spare (refused r) (device_slices state spare)
  unfolding checks_of lent_to lend compact_checks
  refuses r e = ran-refused (compact_call k) state spare _ r e refl refl

  pub compact-closed : (r : Refusal) → first_refusal (opening s) ≡ some r → Ran (compact_call k) state spare (refused r) (device_slices state spare)
  compact-closed r e = refuses r (front-refuses (opening s) _ e)

  module _ (d : Device) (passed : (first_refusal (opening s) ≡ none) × (s.device ≡ d)) where
    pub compact_range : group_count d ≤ k → Ran (compact_call k) state spare (refused out_of_range) (device_slices state spare)
    compact_range l = refuses out_of_range (others_decide (opening s) _ passed.0 ∙ no_group s k d passed.1 l)

    module _ (inside : k < group_count d) where
      pub compact_unsound : sound_group d.N k (group_at s k) ≡ false → Ran (compact_call k) state spare (refused not_sound) (device_slices state spare)
      compact_unsound f = refuses not_sound (others_decide (opening s) _ passed.0 ∙ unsound_group s k d passed.1 inside f)

      pub compact_done_lem : sound_group d.N k (group_at s k) ≡ true → (state' : List ℕ) (n : ℕ) → read_state state' ≡ compact_group k s → n ≡ record_count (compact (group_at s k))
          → Ran (compact_call k) state spare (compacted n) (device_slices state' spare)
      unfolding checks_of lent_to lend effect compact_checks compact_done accepted
      compact_done_lem f state' n q e =
          ran-accepted (compact_call k) state spare (compacted n) _ (others_decide (opening s) _ passed.0 ∙ sound_group_lem s k d passed.1 inside f) (ap compacted e) (rw q) (λ z. absurd (true≢false z))
