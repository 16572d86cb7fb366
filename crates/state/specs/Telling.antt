-- What a forecast says of a lookup, and what becomes of the forecasts of discarded pages. Assumes nothing.
use Rattle.std.specs.Prelude.{◌≡◌, List, true, false, ℕ, ◌+◌, ◌-◌, ◌*◌, ◌/◌, ◌%◌, ◌<◌, length, get_or}
use Rattle.std.proofs.Math.Option.{Option, some}
use Rattle.model.specs.Device.{Device, offset_of}
use Rattle.model.specs.Record.{Record, kind, rise}
use Rattle.model.specs.Marks.{is_marked}
use Rattle.calls.specs.Lookup.{Looked, at, looked_by}
use Rattle.forecast.specs.Forecast.{level_unit, page_zero, page_forecast}

-- f is the forecast of the logical page x: its lookup comes to what the record that f says comes to, after the levels that f says
pub record Tells (d : Device) (spare : List ℕ) (x : ℕ) (a : Looked) (f : ℕ) : Type 0 where
  pub levels : ℕ
  pub held : Option Record
  pub looked : a ≡ looked_by d spare x levels held
  pub number : f ≡ levels * level_unit + page_forecast held (offset_of x)
  pub small : (r : Record) → held ≡ some r → rise (kind r) (offset_of x) < 1024

-- what a lookup comes to where the page that the forecast f says holds the logical page itself
abbrev pub plainly : ℕ → Looked
plainly f = at (f % level_unit - page_zero) (f % level_unit - page_zero) (f / level_unit)

-- the forecasts of the marked ones among the m logical pages from x on became 0, the others stayed
pub record MarkedOut (marks : List ℕ) (x m : ℕ) (l k : List ℕ) : Type 0 where
  pub long : length k ≡ length l
  pub marked : (o : ℕ) → o < m → is_marked marks (x + o) ≡ true → get_or k o 0 ≡ 0
  pub kept : (o : ℕ) → o < m → is_marked marks (x + o) ≡ false → get_or k o 0 ≡ get_or l o 0
