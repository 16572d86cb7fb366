-- What a flush that is not refused has passed, and what writing its batch to a block leaves. Assumes nothing.
use Rattle.std.specs.Prelude.{◌≡◌, List, true, ℕ, ◌≤◌, ltb, length}
use Rattle.model.specs.Lists.{all, store}
use Rattle.model.specs.Device.{Device, spare_length}
use Rattle.model.specs.Spare.{program_block}
use Rattle.model.specs.Learning.{sorted, logicals, sources}
use Rattle.model.specs.State.{State, free_blocks}
use Rattle.model.specs.Sound.{sound_state}
use Rattle.calls.specs.Flush.{write_state, clear_marks}
use Rattle.state.specs.Shaped.{Shaped}

-- in the device's own numbers
pub record Admitted (d : Device) (s : State) (spare batch plan : List ℕ) : Type 0 where
  pub shape : Shaped d s
  pub fits : length spare ≡ spare_length d
  pub sound : sound_state s ≡ true
  pub planned : length plan ≡ d.B
  pub short : length batch ≤ d.B
  pub inside : all (λ x. ltb x d.N) batch ≡ true
  pub free : 2 ≤ length (free_blocks 0 s.counts)

-- block k took the batch, sorted, n pages: the parts of calls' `write_block`
pub record Written (d : Device) (batch : List ℕ) (k n : ℕ) (s s' : State) (spare spare' plan plan' : List ℕ) : Type 0 where
  pub count : n ≡ length (sorted batch)
  pub state : s' ≡ write_state (sorted batch) k s
  pub area : spare' ≡ program_block d (logicals (sorted batch)) k spare
  pub listed : plan' ≡ store plan 0 (sources (sorted batch))

-- so it did where the marks of the batch's logical pages were cleared before: the parts of calls' `flush_done`
abbrev pub BatchWritten : (d : Device) (batch : List ℕ) (k n : ℕ) (s s' : State) (spare spare' plan plan' : List ℕ) → Type 0
BatchWritten d batch k n s s' spare spare' plan plan' = Written d batch k n (clear_marks batch s) s' spare spare' plan plan'
