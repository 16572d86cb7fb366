-- The tally of a state, at the front of an array, chooses the blocks that a collection takes. Assumes nothing.
use mathlib.Core.Path.{◌≡◌, sym, ap, ◌∙◌, subst}
use mathlib.Core.List.{List}
use Prim.Native.Nat.{ℕ, ◌≤◌}
use native.Mathlib.Omega.{arith}
use lib.ListN.{length, take}
use Rattle.model.specs.Lists.{store}
use Rattle.model.specs.Device.{Device}
use Rattle.model.specs.State.{State}
use Rattle.model.proofs.Limits.{limits}
use Rattle.calls.specs.Collection.{valid, victims}
use Rattle.sorting.proofs.SortStores.{front}
use Rattle.choice.specs.Tally.{chosen}
use Rattle.choice.specs.Taking.{Chooses}
use Rattle.choice.proofs.Tallies.{length-tally}
use Rattle.choice.proofs.Totals.{total-victims}
use Rattle.choice.proofs.Victims.{chosen-victims}
use Rattle.state.specs.Reading.{read_state}
use Rattle.state.specs.Shaped.{Passed}
use Rattle.state.proofs.Shaping.{length-counts}
use Rattle.collection.specs.Tally.{tally_of}

module _ (d : Device) (state spare : List ℕ) (v : Passed d (read_state state) spare) where
  abbrev s : State
  s = read_state state

  chooses : Chooses (tally_of s spare) d.B (victims s spare)
  chooses =
      let pages : s.device.B ≡ d.B = ap (λ (e : Device). e.B) v.shape.numbers in
      record {
        blocks = ap (chosen (tally_of s spare)) (sym pages) ∙ chosen-victims _ _ _ (omega (arith, pages, (limits _ v.shape.limits).most_B));
        pages = total-victims _ _ _;
      }

  pub tallied : (z t : List ℕ) → t ≡ store z 0 (tally_of s spare) → d.M ≤ length z → Chooses (take d.M t) d.B (victims s spare)
  tallied z t e room =
      let size = length-tally (valid s spare) s.device s.counts ∙ length-counts _ _ v.shape in
      subst (λ (l : List ℕ). Chooses l d.B (victims s spare)) (sym (front _ _ _ _ e (sym size) (omega (arith, size)))) chooses
