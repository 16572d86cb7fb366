-- What a lookup of an offset comes to by its group's records alone, as one number, and a table of these numbers. Assumes nothing.
use Rattle.std.specs.Prelude.{◌≡◌, List, Bool, true, false, ℕ, suc, ◌+◌, ◌-◌, ◌*◌, ◌<◌, min, ℤ, pos, negsuc, length, get_or}
use Rattle.std.proofs.Math.Option.{Option, none, some}
use Rattle.model.specs.Record.{Record, kind, rise}
use Rattle.model.specs.Levels.{Group, listing, holder, levels_to}
use Rattle.group.specs.Layout.{offsets}

-- what stands for one level, 2^21, and for page 0
abbrev pub level_unit : ℕ
level_unit = 2097152

abbrev pub page_zero : ℕ
page_zero = 1025

-- The number of a record's intercept. A device has at most 2^20 pages, and a record adds less than 1,024 to its intercept: from one below
-- -1,024 or above 2^20 no offset's page exists, and the nearest of these stands for it.
unfoldable pub near : ℤ → ℕ
near (pos p) = page_zero + min p 1048576
near (negsuc m) = page_zero - min (suc m) 1024

-- of the page that the record that holds an offset predicts; 0 where none holds it
unfoldable pub page_forecast : Option Record → ℕ → ℕ
page_forecast none o = 0
page_forecast (some r) o = near r.intercept + rise (kind r) o

-- "goes down the levels to the first record having the offset as a member": the levels looked at, and the page that it predicts
unfoldable pub forecast : Group → ℕ → ℕ
forecast g o = levels_to o g * level_unit + page_forecast (holder o (listing g)) o

-- a table of the forecasts of a group's offsets; what its records add to their intercepts is small
pub record Forecasts (g : Group) (l : List ℕ) : Type 0 where
  pub long : length l ≡ offsets
  pub each : (o : ℕ) → o < offsets → get_or l o 0 ≡ forecast g o
  pub small : (o : ℕ) → o < offsets → (r : Record) → holder o (listing g) ≡ some r → rise (kind r) o < 1024

-- the table m became n: it has f at the offsets that pass the test, and elsewhere what it had
pub record Entered (has : ℕ → Bool) (f : ℕ → ℕ) (m n : List ℕ) : Type 0 where
  pub long : length n ≡ offsets
  pub into : (o : ℕ) → o < offsets → has o ≡ true → get_or n o 0 ≡ f o
  pub kept : (o : ℕ) → o < offsets → has o ≡ false → get_or n o 0 ≡ get_or m o 0

-- a where the test holds, otherwise b
unfoldable pub chosen : Bool → ℕ → ℕ → ℕ
chosen true a b = a
chosen false a b = b
