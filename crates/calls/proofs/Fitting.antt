-- A flush that fits the device: what passing its checks says, and that a block can take its batch. Assumes nothing.
use mathlib.Core.Path.{◌≡◌, refl, sym, ◌∙◌, ap}
use mathlib.Core.List.{List, [], ◌∷◌}
use mathlib.Core.Bool.{true≢false, Bool, false, not, ◌||◌}
use Prim.Native.Nat.{ℕ, ◌≤◌}
use native.Mathlib.Omega.{arith}
use lib.Dec.{ltb}
use lib.ListN.{length}
use borrow.Author.Tests.{ltb-true, ltb-false, le-ltb, not-false}
use Rattle.model.specs.Lists.{all}
use Rattle.model.specs.Device.{Device}
use Rattle.model.specs.Learning.{sorted, arrivals}
use Rattle.model.specs.State.{free_blocks}
use Rattle.model.specs.Sound.{is_empty}
use Rattle.model.proofs.Bools.{or_none, neither}
use Rattle.model.proofs.Lists.{each_all}
use Rattle.model.proofs.Sorting.{sort_asc, sorted-elem, sort-filled, sorted-length}
use Rattle.calls.specs.Refusals.{no_free_block, ◌when◌, first_refusal, wrong_length}
use Rattle.calls.specs.History.{flush_call}
use Rattle.calls.specs.PageMap.{PageMap, map_checks}
use Rattle.calls.specs.Demand3.{Fits}
use Rattle.calls.proofs.Refusing.{goes_on_lem, right-length, length_is}
use Rattle.calls.proofs.Moves.{Writable}

-- A block can take a batch that fits ..
pub batch-ready : (d : Device) (batch plan : List ℕ) → Fits d batch plan → Writable d (sorted batch)
unfolding sorted
batch-ready d batch plan f = record {
  fits = omega (arith, sorted-length batch, f.short);
  ascends = sort_asc (arrivals 0 batch);
  logical = λ x e. ltb-true x d.N (each_all (λ y. ltb y d.N) batch f.logical x (sym (sorted-elem x batch) ∙ e));
}

-- .. and there is something of it.
pub batch-filled : (batch : List ℕ) → 1 ≤ length batch → 1 ≤ length (sorted batch)
unfolding sorted arrivals
batch-filled [] h = absurd (omega arith)
batch-filled (y ∷ l) h = sort-filled (record { logical = y; source = 0 }) (arrivals 1 l)

-- A list that is not empty has an element ..
pub some_there : {A : Type 0} (l : List A) → is_empty l ≡ false → 1 ≤ length l
unfolding is_empty
some_there [] e = absurd (true≢false e)
some_there (x ∷ l) e = omega arith

-- .. and one with an element is not empty.
pub some_left : {A : Type 0} (l : List A) → 1 ≤ length l → is_empty l ≡ false
unfolding is_empty
some_left [] h = absurd (omega arith)
some_left (x ∷ l) h = refl

-- A flush that passes the checks of plan and batch fits the device.
pub fits_of : (d : Device) (batch plan : List ℕ) → wrong_length plan d.B ≡ false → (is_empty batch || ltb d.B (length batch)) ≡ false → not (all (λ y. ltb y d.N) batch) ≡ false → Fits d batch plan
fits_of d batch plan l b n =
    let o = or_none (is_empty batch) (ltb d.B (length batch)) b in
    record { filled = some_there batch o.0; short = ltb-false d.B (length batch) o.1; logical = not-false _ n; planned = length_is plan d.B l }

-- One that fits is refused for nothing but a free block.
pub fits_decides : (m : PageMap) (sized : Bool) (batch plan : List ℕ) → Fits m.device batch plan
    → first_refusal (map_checks sized (flush_call batch plan) m) ≡ first_refusal (no_free_block when ltb (length (free_blocks 0 m.counts)) 2 ∷ [])
unfolding map_checks
fits_decides m sized batch plan f =
    goes_on_lem _ _ (right-length plan m.device.B f.planned)
    ∙ goes_on_lem _ _ (neither _ _ (some_left batch f.filled) (le-ltb m.device.B (length batch) f.short))
    ∙ goes_on_lem _ _ (ap not f.logical)
