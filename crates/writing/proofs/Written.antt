-- A block that is written: the state afterwards, from its count and its records. Assumes nothing.
use mathlib.Core.Path.{◌≡◌, sym, ap, ◌∙◌}
use mathlib.Core.List.{List}
use mathlib.Core.Bool.{true}
use Prim.Native.Nat.{ℕ, ◌+◌, ◌*◌, ◌≤◌, ◌<◌}
use native.Mathlib.Omega.{arith}
use lib.ListN.{length, set}
use Rattle.model.specs.Device.{Device, first_page}
use Rattle.model.specs.Learning.{Write, logicals, learn}
use Rattle.model.specs.Levels.{take_in_all}
use Rattle.model.specs.State.{State, with_counts, with_groups}
use Rattle.model.specs.Sound.{sound_groups, sound_state}
use Rattle.model.proofs.Bools.{and_l}
use Rattle.model.proofs.Limits.{limits}
use Rattle.model.proofs.Sorting.{logicals-length}
use Rattle.calls.specs.Flush.{write_state}
use Rattle.spare.proofs.Sizes.{page-small}
use Rattle.state.specs.Shaped.{Shaped}
use Rattle.state.proofs.Shaping.{shaped-counts}

module _ (d : Device) (s : State) (h : Shaped d s) (k : ℕ) (lt : k < d.M) where
  -- where block k begins, the learner has room
  pub room : (n : ℕ) → n ≤ d.B → k * d.B + n ≤ 2097152
  room n l = omega (arith, page-small d k 0 h.limits lt (omega (arith, (limits d h.limits).least_B)), (limits d h.limits).most_B)

  -- the count first: the state keeps its shape and its groups
  module _ (n : ℕ) (s' : State) (e : s' ≡ with_counts (set s.counts k n) s) where
    pub counted-shaped : Shaped d s'
    counted-shaped = rw e (shaped-counts d (set s.counts k n) s h)

    pub counted-sound : sound_state s ≡ true → sound_groups d.N 0 s'.groups ≡ true
    unfolding sound_state with_counts
    counted-sound q = rw (e, ← h.numbers) (and_l (sound_groups s.device.N 0 s.groups) _ q)

    -- then the learned records: the state of a block that took any writes with these logical pages
    pub records-taken : (pages : List ℕ) (first : ℕ) (s'' : State) → s'' ≡ with_groups (take_in_all 0 (learn d.g first pages) s'.groups) s'
        → n ≡ length pages → first ≡ k * d.B → (ws : List Write) → logicals ws ≡ pages → s'' ≡ write_state ws k s
    unfolding write_state with_counts with_groups first_page
    records-taken pages first s'' f q p ws w =
        let m : length ws ≡ n = sym (logicals-length ws) ∙ ap length w ∙ sym q in
        f ∙ rw (e, w, m, p, h.numbers)
