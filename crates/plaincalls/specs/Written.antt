-- What a flush that is not refused has passed, and what writing a block leaves. Assumes nothing.
use Rattle.std.specs.Prelude.{◌≡◌, List, ℕ, ◌≤◌, length, set}
use Rattle.model.specs.Lists.{store}
use Rattle.model.specs.Device.{Device, first_page}
use Rattle.model.specs.Learning.{sorted, logicals, sources}
use Rattle.model.specs.State.{free_blocks}
use Rattle.calls.specs.Demand3.{Fits}
use Rattle.plain.specs.Table.{Table, with_counts, with_entries}
use Rattle.plain.specs.Calls.{enter}
use Rattle.plainstate.specs.Shaped.{Shaped}

-- in the device's own numbers
pub record Admitted (d : Device) (t : Table) (batch plan : List ℕ) : Type 0 where
  pub shape : Shaped d t
  pub fits : Fits d batch plan
  pub free : 2 ≤ length (free_blocks 0 t.counts)

-- the table whose block k took these logical pages: its count, and their entries
unfoldable pub block_taken : (k : ℕ) (pages : List ℕ) → Table → Table
block_taken k pages t = with_entries (enter (first_page t.device k) pages t.entries) (with_counts (set t.counts k (length pages)) t)

-- block k took the batch, sorted, n pages
pub record Written (batch : List ℕ) (k n : ℕ) (t t' : Table) (plan plan' : List ℕ) : Type 0 where
  pub count : n ≡ length (sorted batch)
  pub table : t' ≡ block_taken k (logicals (sorted batch)) t
  pub listed : plan' ≡ store plan 0 (sources (sorted batch))
