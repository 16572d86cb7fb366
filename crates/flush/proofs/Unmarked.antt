-- The marks of a batch's logical pages cleared: the state admits the batch as before, and what is then written is the flush's. Assumes
-- nothing.
use mathlib.Core.Path.{◌≡◌, subst}
use mathlib.Core.List.{List}
use Prim.Native.Nat.{ℕ}
use Rattle.model.specs.Device.{Device}
use Rattle.model.specs.State.{State, with_marks}
use Rattle.model.specs.Sound.{sound_state}
use Rattle.calls.specs.Flush.{clear_marks}
use Rattle.state.proofs.Shaping.{shaped-marks}
use Rattle.flush.specs.Written.{Admitted, Written, BatchWritten}

module _ (d : Device) (s t : State) (batch : List ℕ) (e : t ≡ clear_marks batch s) where
  pub unmarked_admits : (spare plan : List ℕ) → Admitted d s spare batch plan → Admitted d t spare batch plan
  unfolding clear_marks with_marks sound_state
  unmarked_admits spare plan p = rw e (record {
    shape = shaped-marks d _ s p.shape;
    fits = p.fits;
    sound = p.sound;
    planned = p.planned;
    short = p.short;
    inside = p.inside;
    free = p.free;
  })

  pub unmarked_written : (k n : ℕ) (s' : State) (spare spare' plan plan' : List ℕ) → Written d batch k n t s' spare spare' plan plan'
      → BatchWritten d batch k n s s' spare spare' plan plan'
  unmarked_written k n s' spare spare' plan plan' w = subst (λ (u : State). Written d batch k n u s' spare spare' plan plan') e w
