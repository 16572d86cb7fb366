-- A plain state that passed refusals 1 and 2, and one that passed 3 of a flush or collection as well: what the functions behind them
-- rely on. Assumes nothing.
use Rattle.std.specs.Prelude.{◌≡◌, true}
use Rattle.model.specs.Device.{Device, within_limits}
use Rattle.plain.specs.Table.{Table, table_length, sound_table}

-- its device numbers are d, within their limits, and it has the length that they give
pub record Shaped (d : Device) (t : Table) : Type 0 where
  pub numbers : t.device ≡ d
  pub limits : within_limits d ≡ true
  pub long : t.bytes ≡ table_length d

-- so are they, and the table is sound
pub record Passed (d : Device) (t : Table) : Type 0 where
  pub shape : Shaped d t
  pub sound : sound_table t ≡ true
