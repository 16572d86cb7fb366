-- The refusals of a call on one group behind those of its slices: no such group, then that group not sound. Assumes nothing.
use mathlib.Core.Path.{◌≡◌, refl, ap, ◌∙◌}
use mathlib.Core.Option.{none, some}
use mathlib.Core.Bool.{Bool, true, false, not}
use Prim.Native.Nat.{ℕ, ◌≤◌, ◌<◌}
use lib.Dec.{leb}
use borrow.Author.Tests.{le-leb, lt-leb}
use Rattle.model.specs.Device.{Device, group_count}
use Rattle.model.specs.State.{State, group_at}
use Rattle.model.specs.Sound.{sound_group}
use Rattle.calls.specs.Refusals.{not_sound, out_of_range, first_refusal}
use Rattle.calls.specs.Compaction.{group_checks}
use Rattle.calls.proofs.Refusing.{refuses_at, is_clear}

module _ (s : State) (k : ℕ) (d : Device) (numbers : s.device ≡ d) where
  pub no_group : group_count d ≤ k → first_refusal (group_checks k s) ≡ some out_of_range
  no_group l = refuses_at 0 (group_checks k s) refl tt (rw (numbers, le-leb (group_count d) k l))

  module _ (inside : k < group_count d) where
    there : leb (group_count s.device) k ≡ false
    there = rw (numbers, lt-leb (group_count d) k inside)

    sound_is : (t : Bool) → sound_group d.N k (group_at s k) ≡ t → not (sound_group s.device.N k (group_at s k)) ≡ not t
    sound_is t e = ap (λ (c : Device). not (sound_group c.N k (group_at s k))) numbers ∙ ap not e

    pub unsound_group : sound_group d.N k (group_at s k) ≡ false → first_refusal (group_checks k s) ≡ some not_sound
    unsound_group f = refuses_at 1 (group_checks k s) refl (there, tt) (sound_is false f)

    pub sound_group_lem : sound_group d.N k (group_at s k) ≡ true → first_refusal (group_checks k s) ≡ none
    sound_group_lem f = is_clear (group_checks k s) (there, (sound_is true f, tt))
