-- A state that passed document 01's refusals 1 and 2, and one that passed 3 as well, with its spare area: what the functions behind
-- them rely on. Assumes nothing.
use Rattle.std.specs.Prelude.{◌≡◌, List, true, ℕ, length, get_or}
use Rattle.model.specs.Device.{Device, within_limits, spare_length, state_length}
use Rattle.model.specs.State.{State}
use Rattle.model.specs.Sound.{sound_state}

-- its device numbers are d, within their limits, and it has the length that they give
pub record Shaped (d : Device) (s : State) : Type 0 where
  pub numbers : s.device ≡ d
  pub limits : within_limits d ≡ true
  pub long : s.bytes ≡ state_length d

-- so are they, the spare area has the length that they give, and the state is sound
pub record Passed (d : Device) (s : State) (spare : List ℕ) : Type 0 where
  pub shape : Shaped d s
  pub fits : length spare ≡ spare_length d
  pub sound : sound_state s ≡ true

-- block k's count of written pages
unfoldable pub count_of : State → ℕ → ℕ
count_of s k = get_or s.counts k 0
